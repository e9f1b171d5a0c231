-- What an insert gives.
use Rattle.std.proofs.Common.{Result, ◌≡◌, ◌≤◌, ◌↔◌, ◌⊎◌, inl, inr, ◌+◌, ℕ, Bool, true, false, nat_le, List, Option, Some, None, Contains, refl, sym, ap, ◌∙◌, rules, true≢false}
use Rattle.std.specs.Prelude.{if◌then◌else◌}
use Rattle.std.specs.Result.{IfErr, IsErrAnd}
use Rattle.std.proofs.lemmas.Result.{err_from_is_err_and}
use Rattle.cqa_value.specs.declared.memory.Fail.{Fail}
use Rattle.cqa_value.specs.declared.memory.Fail.TheVariants.{NoMemory, Refused}
use Rattle.cqa_value.specs.declared.value.Kind.{Kind}
use Rattle.cqa_value.specs.declared.value.Value.{Value}
use Rattle.refusals.specs.declared.refusal.Refusal.{Refusal}
use Rattle.refusals.specs.declared.refusal.Refusal.TheVariants.{Limit}
use Rattle.refusals.specs.declared.refusal.LimitKind.TheVariants.{Rows}
use Rattle.refusals.specs.Refusal.{first_of, IsRefusedAs}
use Rattle.refusals.specs.Kinds.{rows_fault}
use Rattle.cqa_model.specs.Database.{Table, row_total}
use Rattle.table_blocks.specs.Tables.{IsMerged, rows_at, key_at, kinds_at, mark_at}
use Rattle.table_changes.specs.Taken.{taken_fault}
use Rattle.table_changes.specs.Changes.{is_among, count_new, strict_key_fault, limit_fault, insert_fault}
use Rattle.table_changes.proofs.Membership.{among}

-- the stored rows with the new ones are the stored rows with the given ones
pub merged_given : (key : List ℕ) (stored given fresh rows : List (List Value)) → IsMerged key stored fresh rows
    → ((row : List Value) → Contains fresh row ↔ (Contains given row × (Contains stored row → ⊥))) → IsMerged key stored given rows
merged_given key stored given fresh rows merged new = record {
  in_order = merged.in_order;
  members = λ row. (
    λ h. elim ((merged.members row).0 h) [ inl m ↦ inl m | inr f ↦ inr ((new row).0 f).0 ],
    λ h. (merged.members row).1 (elim h [ inl m ↦ inl m | inr g ↦ known row g (is_among stored row) refl ]),
  );
}
  where
    known : (row : List Value) → Contains given row → (b : Bool) → is_among stored row ≡ b → Contains stored row ⊎ Contains fresh row
    known row g true e = inl ((among stored row).0 e)
    known row g false e = inr ((new row).1 (g, λ m. true≢false (sym ((among stored row).1 m) ∙ e)))

-- there is room for the new rows
room : (n : ℕ) → n ≤ 1_000_000 → (if nat_le n 1_000_000 then None else Some (Limit Rows)) ≡ None
room n h = ap (λ b. if b then None else Some (Limit Rows)) fits
  where
    fits : nat_le n 1_000_000 ≡ true
    fits = search (rules, h)

-- a table that isn't strict takes rows of any keys
pub lax_fault : (db : List Table) (table : ℕ) (rows : List (List Value)) → mark_at db table ≡ false → strict_key_fault db table rows ≡ None
lax_fault db table rows lax = (λ i. if lax i then taken_fault (key_at db table) (rows_at db table) 1 rows else None)

pub valid_insert : (db : List Table) (table : ℕ) (rows : List (List Value)) → rows_fault (kinds_at db table) 1 rows ≡ None → strict_key_fault db table rows ≡ None → row_total db + count_new (rows_at db table) rows ≤ 1_000_000 → insert_fault db table rows ≡ None
valid_insert db table rows fits apart few = (λ i. first_of (fits i) (first_of (apart i) (limit_fault db table rows))) ∙ room (row_total db + count_new (rows_at db table) rows) few

pub faulty_insert : (db : List Table) (table : ℕ) (rows : List (List Value)) (fault : Refusal) → rows_fault (kinds_at db table) 1 rows ≡ Some fault → insert_fault db table rows ≡ Some fault
faulty_insert db table rows fault e = ap (λ o. first_of o (first_of (strict_key_fault db table rows) (limit_fault db table rows))) e

pub taken_insert : (db : List Table) (table : ℕ) (rows : List (List Value)) (fault : Refusal) → rows_fault (kinds_at db table) 1 rows ≡ None → strict_key_fault db table rows ≡ Some fault → insert_fault db table rows ≡ Some fault
taken_insert db table rows fault fits e = (λ i. first_of (fits i) (first_of (e i) (limit_fault db table rows)))

-- there are too many rows
full : (n : ℕ) → (n ≤ 1_000_000 → ⊥) → (if nat_le n 1_000_000 then None else Some (Limit Rows)) ≡ Some (Limit Rows)
full n h = go (nat_le n 1_000_000) refl
  where
    go : (b : Bool) → nat_le n 1_000_000 ≡ b → (if b then None else Some (Limit Rows)) ≡ Some (Limit Rows)
    go true e = absurd (h (search (rules, e)))
    go false e = refl

pub full_insert : (db : List Table) (table : ℕ) (rows : List (List Value)) → rows_fault (kinds_at db table) 1 rows ≡ None → strict_key_fault db table rows ≡ None → (row_total db + count_new (rows_at db table) rows ≤ 1_000_000 → ⊥) → insert_fault db table rows ≡ Some (Limit Rows)
full_insert db table rows fits apart many = (λ i. first_of (fits i) (first_of (apart i) (limit_fault db table rows))) ∙ full (row_total db + count_new (rows_at db table) rows) many

-- the fault of rows that were looked at
pub fault_seen : (kinds seen_kinds : List Kind) (rows seen_rows : List (List Value)) (fault : Option Refusal) → seen_kinds ≡ kinds → seen_rows ≡ rows → fault ≡ rows_fault seen_kinds 1 seen_rows → rows_fault kinds 1 rows ≡ fault
fault_seen kinds seen_kinds rows seen_rows fault k r e = (λ i. rows_fault (sym k i) 1 (sym r i)) ∙ sym e

-- the count of rows that were looked at
pub count_seen : (stored seen_stored given seen_given : List (List Value)) (count long : ℕ) → seen_stored ≡ stored → seen_given ≡ given → count ≡ long → long ≡ count_new seen_stored seen_given → count ≡ count_new stored given
count_seen stored seen_stored given seen_given count long s g c e = c ∙ e ∙ (λ i. count_new (s i) (g i))

-- the first fault of two checks is the first of three
pub first_first : (first second third : Option Refusal) (fault : Refusal) → first_of first second ≡ Some fault → first_of first (first_of second third) ≡ Some fault
first_first None (Some found) third fault e = e
first_first None None third fault e = cc
first_first (Some found) second third fault e = e

-- a refusal by two checks is one by three
pub refused_first : (first second third : Option Refusal) (why : Fail Refusal) → IsRefusedAs why (first_of first second) → IsRefusedAs why (first_of first (first_of second third))
refused_first first second third NoMemory h = tt
refused_first first second third (Refused fault) h = first_first first second third fault h

-- what a `?` returns of it
pub refused_on : {A : Type 0} (first second third : Option Refusal) (why : Fail Refusal) (result : Result A (Fail Refusal)) → IsErrAnd result (λ e. e ≡ why) → IsRefusedAs why (first_of first second) → IfErr result (λ e. IsRefusedAs e (first_of first (first_of second third)))
refused_on first second third why result given h = let found = err_from_is_err_and result given in rw (found.1, found.2) (refused_first first second third why h)
