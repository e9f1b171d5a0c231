-- The repair that an assignment gives: of each block a true row, where there is one.
use Rattle.std.specs.Prelude.{◌≡◌, ℕ, Bool, true, List, [], Contains, slice_index_or}
use Rattle.cqa_value.specs.declared.value.Value.{Value}
use Rattle.cqa_model.specs.declared.query.RowId.{RowId}
use Rattle.cqa_model.specs.Database.{Table}
use Rattle.cqa_model.specs.Repairs.{IsRepair}
use Rattle.row_lists.specs.Clauses.{Variable}
use Rattle.row_lists.specs.Lists.{named, IsStored, IsOfBlock}
use Rattle.row_lists.specs.Formulas.{HasNumberOf}

-- the row of a name is true
abbrev pub IsTrueName : List ℕ → List Variable → (ℕ → Bool) → RowId → Type 0
IsTrueName frame variables v id = (n : ℕ) × HasNumberOf frame variables id n × (v n ≡ true)

-- a repair keeps a true row of each block that has one
pub record AreTruePicks (db : List Table) (frame : List ℕ) (variables : List Variable) (v : ℕ → Bool) (kept : List (List (List Value))) : Type 0 where
  pub repair : IsRepair db kept
  pub prefers : (m n : RowId) → IsStored db m → IsStored db n → IsOfBlock db m n → IsTrueName frame variables v n → Contains (slice_index_or kept m.table []) (named db m) → IsTrueName frame variables v m
