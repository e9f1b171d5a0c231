use Rattle.std.proofs.Common.{◌≡◌, ◌<◌, ◌++◌, List, length, get_or, map, ap, sym, subst}
use Rattle.std.specs.List.{range_with_len}
use Rattle.row_lists.specs.declared.span.Span.{Span}
use Rattle.row_lists.specs.Lists.{name}
use Rattle.row_lists.specs.Formulas.{table_at, name_in}
use Rattle.row_lists.proofs.Reading.{no_span, read_in}
use Rattle.row_lists.proofs.Encoding.{names_more}
use Rattle.row_lists.proofs.formula.names.Goals as goal

pub table-requires : goal.table-requires
table-requires c =
    let items = c.as_slice-span-items.result.now in
    let i = c.loop-span.span-index in
    (c.requires.each (get_or items i no_span) (read_in c.args.blocks.now.spans items i c.as_slice-span-items.ensures c.loop-span-test.true)).1.there

pub add_names-requires : goal.add_names-requires
add_names-requires c =
    let items = c.as_slice-span-items.result.now in
    let i = c.loop-span.span-index in
    c.args.blocks.now.kept.within (get_or items i no_span) (read_in c.args.blocks.now.spans items i c.as_slice-span-items.ensures c.loop-span-test.true)

pub loop-span-preserved : goal.loop-span-preserved
loop-span-preserved c =
    let frame = c.args.lists.now.frame.now.tables in
    let spans = c.args.blocks.now.spans in
    let items = c.as_slice-span-items.result.now in
    let i = c.loop-span.span-index in
    let t = c.table.result in
    let old = c.loop-span.rows.items in
    let new = c.add_names.new.rows.items in
    let same = c.as_slice-span-items.ensures in
    let table : t ≡ table_at frame (get_or spans i no_span).slot = subst (λ (ss : List Span). t ≡ table_at frame (get_or ss i no_span).slot) same c.table.ensures.is in
    names_more (name_in frame) t spans i (subst (λ (ss : List Span). i < length ss) same c.loop-span-test.true) (λ p. ap (λ u. name u p) (sym table)) old new c.loop-span.invariant
    (subst (λ (ss : List Span). new ≡ old ++ map (name t) (range_with_len (get_or ss i no_span).start (get_or ss i no_span).count)) same c.in_ok-add_names.ensures)
