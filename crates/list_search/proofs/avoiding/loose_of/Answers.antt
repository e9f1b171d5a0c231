use Rattle.std.proofs.Common.{◌∙◌, ◌<◌, List, length, ap, sym, subst, slice_index}
use Rattle.std.proofs.lemmas.Result.{IfOk-weaker}
use Rattle.cqa_value.specs.declared.value.Value.{Value}
use Rattle.table_blocks.specs.Tables.{rows_at, key_at}
use Rattle.join_access.specs.Listing.{names_of}
use Rattle.row_lists.specs.Formulas.{table_at}
use Rattle.row_lists.specs.Lists.{name, HasFree}
use Rattle.row_lists.specs.Loose.{HasFreePlace}
use Rattle.row_lists.specs.Runs.{AreRowPlaces}
use Rattle.row_lists.proofs.Blocks.{are_places}
use Rattle.list_search.proofs.Avoided.{free-row}
use Rattle.list_search.proofs.avoiding.loose_of.Goals as goal

pub loose_places-requires : goal.loose_places-requires
loose_places-requires c =
    let l = c.args.lists.now in
    let is = c.rows-rows.ensures.is ∙ ap (rows_at l.db.now) c.table-table.ensures.is in
    subst (λ (xs : List (List Value)). AreRowPlaces xs c.column.result.now) (sym is) (are_places l.db.now l.frame.now.tables (names_of l.lists.now) l.stored (table_at l.frame.now.tables c.args.slot) c.column.result.now c.column.ensures.column)

pub returns-clause-size : goal.returns-clause-size
returns-clause-size c = IfOk-weaker c.loose_places.result _ _ (λ loose e. e ∙ ap length c.column.ensures.is) c.loose_places.ensures.size

pub returns-clause-loose : goal.returns-clause-loose
returns-clause-loose c =
    let l = c.args.lists.now in
    let table = table_at l.frame.now.tables c.args.slot in
    let places = c.column.result.now in
    let rows = c.rows-rows.ensures.is ∙ ap (rows_at l.db.now) c.table-table.ensures.is in
    let key = c.as_slice-key.ensures ∙ (c.schema.ensures.key ∙ ap (key_at l.db.now) c.table-table.ensures.is) in
    IfOk-weaker c.loose_places.result _ _
    (λ loose h i k e.
    let f = h i (subst (λ ps. i < length ps) (sym c.column.ensures.is) k) e in
    let g = subst (λ ks. HasFreePlace ks (rows_at l.db.now table) places (slice_index places i)) key (subst (λ (xs : List (List Value)). HasFreePlace c.as_slice-key.result.now xs places (slice_index places i)) rows f) in
    subst (λ ps. HasFree l.db.now (names_of l.lists.now) (name table (slice_index ps i))) c.column.ensures.is (free-row l.db.now (names_of l.lists.now) table places c.column.ensures.column (slice_index places i) g)) c.loose_places.ensures.loose
