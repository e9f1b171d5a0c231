use Rattle.std.proofs.Common.{◌≡◌, ◌∙◌, List, ℕ, sym, subst, arith}
use Rattle.std.proofs.lemmas.Result.{IfOk-weaker}
use Rattle.cqa_value.specs.declared.value.Value.{Value}
use Rattle.join_access.specs.Listing.{names_of}
use Rattle.table_blocks.specs.Tables.{rows_at, key_at}
use Rattle.row_lists.specs.declared.span.Span.{Span}
use Rattle.row_lists.specs.Formulas.{table_at}
use Rattle.row_lists.specs.Frames.{AreTablePlaces}
use Rattle.row_lists.specs.Runs.{AreRowPlaces, AreRuns}
use Rattle.row_lists.proofs.Blocks.{are_places, list-spans-more}
use Rattle.row_lists.proofs.relevant.runs_of.Goals as goal

pub runs-requires-clause-places : goal.runs-requires-clause-places
runs-requires-clause-places c =
    let l = c.args.lists.now in
    let t = c.table-table.result in
    subst (λ x. AreRowPlaces x c.column.result.now) (sym c.rows-rows.ensures.is)
    (are_places l.db.now l.frame.now.tables (names_of l.lists.now) l.stored t c.column.result.now (subst (λ u. AreTablePlaces (names_of l.lists.now) u c.column.result.now) (sym c.table-table.ensures.is) c.column.ensures.column))

-- the key, the rows and the slot's table are those of the frame
of_table : (db : List Rattle.cqa_model.specs.Database.Table) (t u n m k : ℕ) (key : List ℕ) (rows : List (List Value)) (column : List ℕ) (more : List Span) → t ≡ u → key ≡ key_at db t → rows ≡ rows_at db t →
    AreRuns key rows n m column k more → AreRuns (key_at db u) (rows_at db u) n m column k more
of_table db t u n m k key rows column more e ek er r =
    subst (λ v. AreRuns (key_at db v) (rows_at db v) n m column k more) e (subst (λ x. AreRuns (key_at db t) x n m column k more) er (subst (λ x. AreRuns x rows n m column k more) ek r))

pub returns-clause-more : goal.returns-clause-more
returns-clause-more c =
    let l = c.args.lists.now in
    let frame = l.frame.now.tables in
    IfOk-weaker c.runs.result _ _ (λ more runs spans s.
    list-spans-more l.db.now frame (names_of l.lists.now) c.args.slot c.args.base more.vars spans more.list s c.requires.there c.column.result.now c.column.ensures.column
    (of_table l.db.now c.table-table.result (table_at frame c.args.slot) c.args.slot c.args.base more.vars c.as_slice-key.result.now c.rows-rows.result c.column.result.now more.list
    c.table-table.ensures.is (c.as_slice-key.ensures ∙ c.schema.ensures.key) c.rows-rows.ensures.is runs)) c.runs.ensures

pub returns-clause-small : goal.returns-clause-small
returns-clause-small c =
    IfOk-weaker c.runs.result _ _ (λ more runs.
    let few = c.rows-rows.ensures.few in
    let base = c.requires.small in
    let small = runs.small in
    omega (arith, small, few, base)) c.runs.ensures
