use Rattle.std.proofs.Common.{◌≡◌, ◌∙◌, ◌≤◌, ◌-◌, ◌+◌, ◌↔◌, sym, subst, arith, length, List, ℕ, ◌++◌, inl, inr, None, Contains}
use Rattle.std.specs.Result.{IfErr}
use Rattle.cqa_value.specs.declared.value.Value.{Value}
use Rattle.cqa_model.specs.Database.{Table, AreConsistent, row_total}
use Rattle.std.proofs.lemmas.List.Elements.{Contains-append_cases, Contains-append_left, Contains-append_right}
use Rattle.table_blocks.specs.Tables.{rows_at, kinds_at, key_at}
use Rattle.refusals.specs.Refusal.{first_of, IsRefusedAs}
use Rattle.table_changes.specs.Changes.{insert_fault, limit_fault, strict_key_fault, count_new}
use Rattle.refusals.specs.Kinds.{rows_fault}
use Rattle.table_blocks.proofs.Sharing.{consistent_within}
use Rattle.refusals.proofs.Faults.{rows_fit, both_none}
use Rattle.table_changes.proofs.Inserting.{merged_given, valid_insert, refused_on, count_seen}
use Rattle.table_changes.proofs.changes.insert.Goals as goal

-- nothing is at fault with the rows
sound : (db : List Table) (table : ℕ) (rows seen : List (List Value)) → seen ≡ rows → first_of (rows_fault (kinds_at db table) 1 seen) (strict_key_fault db table seen) ≡ None → (rows_fault (kinds_at db table) 1 rows ≡ None) × (strict_key_fault db table rows ≡ None)
sound db table rows seen is none = subst (λ rows. (rows_fault (kinds_at db table) 1 rows ≡ None) × (strict_key_fault db table rows ≡ None)) is (both_none (rows_fault (kinds_at db table) 1 seen) (strict_key_fault db table seen) none)

pub returns-in_err-check_rows-clause-refused : goal.returns-in_err-check_rows-clause-refused
returns-in_err-check_rows-clause-refused c =
    let db = c.args.db.now in
    let table = c.args.table in
    subst (λ rows. IfErr c.from_residual.result (λ e. IsRefusedAs e (insert_fault db table rows))) (c.as_slice.ensures.value ∙ c.into_vec-rows.ensures)
    (refused_on (rows_fault (kinds_at db table) 1 c.as_slice.result.now) (strict_key_fault db table c.as_slice.result.now) (limit_fault db table c.as_slice.result.now)
    c.in_err-check_rows.field-0.0 c.from_residual.result c.from_residual.ensures.1 c.in_err-check_rows.ensures.checked.refused)

pub add-requires-clause-fits : goal.add-requires-clause-fits
add-requires-clause-fits c row h =
    rows_fit (kinds_at c.args.db.now c.args.table) 1 c.args.rows (sound c.args.db.now c.args.table c.args.rows c.as_slice.result.now (c.as_slice.ensures.value ∙ c.into_vec-rows.ensures) c.in_ok-check_rows.ensures.checked.valid).0 row
    (subst (λ rows. Contains rows row) c.into_vec-rows.ensures ((c.in_ok-fresh.ensures.new row).0 h).0)

pub add-requires-clause-valid : goal.add-requires-clause-valid
add-requires-clause-valid c row h = c.in_ok-check_rows.ensures.values row (subst (λ rows. Contains rows row) (sym (c.as_slice.ensures.value ∙ c.into_vec-rows.ensures)) (subst (λ rows. Contains rows row) c.into_vec-rows.ensures ((c.in_ok-fresh.ensures.new row).0 h).0))

count_is : (c : goal.In_ok-add) → c.len-count.result ≡ count_new (rows_at c.args.db.now c.args.table) c.args.rows
count_is c =
    count_seen (rows_at c.args.db.now c.args.table) c.rows.result c.args.rows c.into_vec-rows.result.items c.len-count.result (length c.in_ok-fresh.fresh.rows.items) c.rows.ensures.is c.into_vec-rows.ensures
    (let r = c.len-count.ensures in omega (arith, r)) c.in_ok-fresh.ensures.count

room_left : (total all count new : ℕ) → total ≡ all → count ≡ new → total ≤ 1_000_000 → count ≤ 1_000_000 - total → all + new ≤ 1_000_000
room_left total all count new t n few room = omega (arith, t, n, few, room)

pub returns-clause-inserted : goal.returns-clause-inserted
returns-clause-inserted c =
    let new : (row : List Value) → Contains c.in_ok-fresh.fresh.rows.items row ↔ (Contains c.args.rows row × (Contains (rows_at c.args.db.now c.args.table) row → ⊥)) =
    subst (λ stored. (row : List Value) → Contains c.in_ok-fresh.fresh.rows.items row ↔ (Contains c.args.rows row × (Contains stored row → ⊥))) c.rows.ensures.is
    (subst (λ given. (row : List Value) → Contains c.in_ok-fresh.fresh.rows.items row ↔ (Contains given row × (Contains c.rows.result row → ⊥))) c.into_vec-rows.ensures c.in_ok-fresh.ensures.new) in
    record {
      rows = c.in_ok-add.ensures.changed.0;
      merged = merged_given (key_at c.args.db.now c.args.table) (rows_at c.args.db.now c.args.table) c.args.rows c.in_ok-fresh.fresh.rows.items c.in_ok-add.ensures.changed.0 c.in_ok-add.ensures.changed.1 new;
      changed = c.in_ok-add.ensures.changed.2;
      count_is = count_is c;
    }

pub returns-clause-valid : goal.returns-clause-valid
returns-clause-valid c =
    let none = sound c.args.db.now c.args.table c.args.rows c.as_slice.result.now (c.as_slice.ensures.value ∙ c.into_vec-rows.ensures) c.in_ok-check_rows.ensures.checked.valid in
    valid_insert c.args.db.now c.args.table c.args.rows none.0 none.1
    (room_left c.row_total.result (row_total c.args.db.now) c.len-count.result _ c.row_total.ensures.total (count_is c) c.row_total.ensures.few c.if-count-row_total.false)

pub add-requires-clause-consistent : goal.add-requires-clause-consistent
add-requires-clause-consistent c t =
    let stored = rows_at c.args.db.now c.args.table in
    let fresh = c.in_ok-fresh.fresh.rows.items in
    consistent_within (key_at c.args.db.now c.args.table) (stored ++ c.args.rows) (stored ++ fresh)
    (subst (λ rows. AreConsistent (key_at c.args.db.now c.args.table) (stored ++ rows)) (c.as_slice.ensures.value ∙ c.into_vec-rows.ensures) (c.in_ok-check_rows.ensures.checked.is t))
    (λ row h. elim (Contains-append_cases stored fresh row h) [
      | inl m ↦ Contains-append_left stored c.args.rows row m
      | inr m ↦ Contains-append_right stored c.args.rows row (subst (λ rows. Contains rows row) c.into_vec-rows.ensures ((c.in_ok-fresh.ensures.new row).0 m).0)
    ])
