-- The repair that an assignment gives: of each block the first true row, or else the first row.
use Rattle.std.specs.Prelude.{◌≡◌, ℕ, List, [], Contains, Bool, true, slice_index_or}
use Rattle.cqa_value.specs.declared.value.Value.{Value}
use Rattle.cqa_model.specs.declared.query.Query.{Query}
use Rattle.cqa_model.specs.Database.{Table, stored}
use Rattle.cqa_model.specs.Repairs.{IsTableRepair}
use Rattle.cqa_model.specs.Blocks.{IsPick}
use Rattle.cqa_model.specs.Query.{atom_key, rows_of}
use Rattle.row_lists.specs.Clauses.{Variable, HasNumber}

-- the variable is true under the assignment
abbrev pub IsTrueVariable : List Variable → (ℕ → Bool) → Variable → Type 0
IsTrueVariable variables v x = (n : ℕ) × HasNumber variables n x × (v n ≡ true)

-- these rows of an atom are kept: the pick of each block
pub record IsPicked (q : Query) (db : List Table) (variables : List Variable) (v : ℕ → Bool) (F : ℕ) (kept : List (List Value)) : Type 0 where
  pub repair : IsTableRepair (atom_key q F) (rows_of q (stored db) F) kept
  pub picks : (x : List Value) → Contains kept x → (at : ℕ) × (slice_index_or (rows_of q (stored db) F) at [] ≡ x) ×
      IsPick (atom_key q F) (rows_of q (stored db) F) (λ i. IsTrueVariable variables v (record { slot = F; place = i })) at
