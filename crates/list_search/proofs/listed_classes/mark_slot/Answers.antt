use Rattle.std.proofs.Common.{◌<◌, ◌∙◌, List, [], length, ap, sym, subst, Contains, slice_index_or}
use Rattle.cqa_value.specs.declared.value.Value.{Value}
use Rattle.cqa_model.specs.Repairs.{SharesKey}
use Rattle.table_blocks.specs.Tables.{rows_at}
use Rattle.join_access.specs.Listing.{names_of}
use Rattle.row_lists.specs.Lists.{IsIn, name}
use Rattle.row_lists.specs.Formulas.{name_in, table_at}
use Rattle.row_lists.specs.Spans.{at, variables_of_spans}
use Rattle.list_search.specs.Quotients.{Agree}
use Rattle.list_search.proofs.Marking.{classed-more}
use Rattle.list_search.proofs.listed_classes.mark_slot.Goals as goal

pub mark_rows-requires-clause-there : goal.mark_rows-requires-clause-there
mark_rows-requires-clause-there c p m =
    let l = c.args.lists.now in
    let old = subst (λ ps. Contains ps p) c.in_ok-places.ensures.items ((c.put_by_columns.ensures p).0 (subst (λ ps. Contains ps p) c.as_slice.ensures.value m)) in
    let is = c.rows-rows.ensures.is ∙ ap (rows_at l.db.now) c.table.ensures.is in
    subst (λ (xs : List (List Value)). p < length xs) (sym is) (l.stored (name (table_at l.frame.now.tables c.args.slot) p) ((c.column.ensures.column.exactly p).0 old)).1

pub mark_rows-requires-clause-covered : goal.mark_rows-requires-clause-covered
mark_rows-requires-clause-covered c p m =
    let old = subst (λ ps. Contains ps p) c.in_ok-places.ensures.items ((c.put_by_columns.ensures p).0 (subst (λ ps. Contains ps p) c.as_slice.ensures.value m)) in
    c.requires.rows.to c.args.slot p (c.requires.there, (c.column.ensures.column.exactly p).0 old)

pub returns : goal.returns
returns c =
    let l = c.args.lists.now in
    let db = l.db.now in
    let frame = l.frame.now.tables in
    let all = names_of l.lists.now in
    let scope = c.args.scope.now in
    let is = c.rows-rows.ensures.is ∙ ap (rows_at db) c.table.ensures.is in
    classed-more (variables_of_spans c.args.numbered.now.spans) (λ s p. IsIn all (name_in frame (at s p))) (Agree db frame scope.columns) c.args.slot c.columns_at-columns.result.now c.as_slice.result.now c.rows-rows.result c.args.classes.now c.mark_rows.new.classes
    c.requires.so_far
    (λ p r sh. subst (λ cs. SharesKey cs (slice_index_or (rows_at db (table_at frame c.args.slot)) r []) (slice_index_or (rows_at db (table_at frame c.args.slot)) p [])) c.columns_at-columns.ensures
    (subst (λ (xs : List (List Value)). SharesKey c.columns_at-columns.result.now (slice_index_or xs r []) (slice_index_or xs p [])) is sh))
    (λ p m. (c.column.ensures.column.exactly p).0 (subst (λ ps. Contains ps p) c.in_ok-places.ensures.items ((c.put_by_columns.ensures p).0 (subst (λ ps. Contains ps p) c.as_slice.ensures.value m))))
    (λ p i. subst (λ ps. Contains ps p) (sym c.as_slice.ensures.value)
    ((c.put_by_columns.ensures p).1 (subst (λ ps. Contains ps p) (sym c.in_ok-places.ensures.items) ((c.column.ensures.column.exactly p).1 i))))
    c.mark_rows.ensures
