use Rattle.std.proofs.Common.{◌≡◌, ◌∙◌, ℕ, [], List, false, inl, inr, length, Contains, ap, subst, arith}
use Rattle.std.specs.List.Sorted.{IsStrictlySortedBy}
use Rattle.cqa_value.specs.declared.value.Value.{Value}
use Rattle.cqa_value.proofs.Words.{mem-nil}
use Rattle.cqa_model.specs.Database.{block_cmp, row_total}
use Rattle.refusals.proofs.Faults.{rows_fit}
use Rattle.table_blocks.specs.Tables.{IsMerged, rows_at, kinds_at, key_at}
use Rattle.table_changes.specs.Changes.{count_new}
use Rattle.table_changes.proofs.Counting.{counted}
use Rattle.table_changes.proofs.Inserting.{full_insert, lax_fault, valid_insert}
use Rattle.table_changes.proofs.changes.fill.Goals as goal

module _ (key : List ℕ) (stored rows : List (List Value)) (empty : stored ≡ []) (s : IsStrictlySortedBy (block_cmp key) rows) where
  unstored : (row : List Value) → Contains stored row → ⊥
  unstored row m = mem-nil row (subst (λ z. Contains z row) empty m)

  -- where no row is stored, rows in block order are all new, and are all the rows then
  all_count : length rows ≡ count_new stored rows
  all_count = counted key stored rows rows s (λ row. (λ h. (h, unstored row), λ h. h.0))

  all_merged : IsMerged key stored rows rows
  all_merged = record { in_order = s; members = λ row. (λ h. inr h, λ h. elim h [ inl m ↦ absurd (unstored row m) | inr m ↦ m ]) }

pub fill-requires-clause-fits : goal.fill-requires-clause-fits
fill-requires-clause-fits c = rows_fit (kinds_at c.args.db.now c.args.table) 1 c.args.rows c.requires.fits

pub returns-then-count-row_total-clause-refused : goal.returns-then-count-row_total-clause-refused
returns-then-count-row_total-clause-refused c =
    let db = c.args.db.now in
    let table = c.args.table in
    let all = all_count (key_at db table) (rows_at db table) c.args.rows c.requires.empty c.requires.ascending in
    let long = c.len-count.ensures ∙ ap length c.rows.ensures in
    let total = c.row_total.ensures.total in
    let more = c.if-count-row_total.true in
    full_insert db table c.args.rows c.requires.fits (lax_fault db table c.args.rows c.requires.lax) (λ few. omega (arith, all, long, total, more, few))

pub returns-clause-inserted : goal.returns-clause-inserted
returns-clause-inserted c =
    let db = c.args.db.now in
    let table = c.args.table in
    record {
      rows = c.args.rows;
      merged = all_merged (key_at db table) (rows_at db table) c.args.rows c.requires.empty c.requires.ascending;
      changed = c.fill.ensures.filled;
      count_is = c.len-count.ensures ∙ ap length c.rows.ensures ∙ all_count (key_at db table) (rows_at db table) c.args.rows c.requires.empty c.requires.ascending;
    }

pub returns-clause-valid : goal.returns-clause-valid
returns-clause-valid c =
    let db = c.args.db.now in
    let table = c.args.table in
    let all = all_count (key_at db table) (rows_at db table) c.args.rows c.requires.empty c.requires.ascending in
    let long = c.len-count.ensures ∙ ap length c.rows.ensures in
    let total = c.row_total.ensures.total in
    let few = c.row_total.ensures.few in
    let room = c.if-count-row_total.false in
    valid_insert db table c.args.rows c.requires.fits (lax_fault db table c.args.rows c.requires.lax) (omega (arith, all, long, total, few, room))
