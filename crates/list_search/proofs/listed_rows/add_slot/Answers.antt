use Rattle.std.proofs.Common.{◌+◌, List, length, length-append, ap, sym, subst, arith}
use Rattle.std.proofs.lemmas.Result.{IfOk-weaker}
use Rattle.join_access.specs.Listing.{names_of}
use Rattle.row_lists.specs.declared.span.Span.{Span}
use Rattle.row_lists.specs.Lists.{IsIn}
use Rattle.row_lists.specs.Formulas.{name_in, table_at}
use Rattle.row_lists.specs.Spans.{at}
use Rattle.list_search.specs.Classing.{rows_from}
use Rattle.list_search.specs.Quotients.{AreNumberedTo}
use Rattle.list_search.proofs.Listed.{column_few}
use Rattle.list_search.proofs.SingleRows.{numbered-more, rows-long}
use Rattle.list_search.proofs.listed_rows.add_slot.Goals as goal

pub add_places-requires : goal.add_places-requires
add_places-requires c =
    let l = c.args.lists.now in
    let few = column_few l.db.now (names_of l.lists.now) l.database l.stored (table_at l.frame.now.tables c.args.slot) c.column.result.now c.column.ensures.column in
    let old = c.requires.few in
    let there = c.requires.there in
    let tables = l.frame.now.few in
    omega (arith, few, old, there, tables)

pub returns-clause-few : goal.returns-clause-few
returns-clause-few c =
    let l = c.args.lists.now in
    let ps = c.column.result.now in
    let few = column_few l.db.now (names_of l.lists.now) l.database l.stored (table_at l.frame.now.tables c.args.slot) ps c.column.ensures.column in
    let old = c.requires.few in
    let more = rows-long c.args.slot (length c.args.numbered.now.items) ps in
    let joined = length-append c.args.numbered.now.items (rows_from c.args.slot (length c.args.numbered.now.items) ps) in
    IfOk-weaker c.add_places.result _ _ (λ done e. let is = ap (λ (ss : List Span). length ss) e in omega (arith, few, old, more, joined, is)) c.add_places.ensures

pub returns-clause-rows : goal.returns-clause-rows
returns-clause-rows c =
    let l = c.args.lists.now in
    let all = names_of l.lists.now in
    let frame = l.frame.now.tables in
    let column = c.column.ensures.column in
    let ps = c.column.result.now in
    let few = column_few l.db.now all l.database l.stored (table_at frame c.args.slot) ps column in
    let old = c.requires.few in
    let there = c.requires.there in
    let tables = l.frame.now.few in
    IfOk-weaker c.add_places.result _ _
    (λ done e. subst (λ (ss : List Span). AreNumberedTo frame all (c.args.slot + 1) ss) (sym e)
    (numbered-more (λ s p. IsIn all (name_in frame (at s p))) c.args.slot c.args.numbered.now.items c.requires.so_far ps column.in_order
    (λ p m. (column.exactly p).0 m) (λ p i. (column.exactly p).1 i) (omega (arith, few, old, there, tables)))) c.add_places.ensures
