-- Mending: rows of witnesses are exchanged for others of their blocks, until no witness is left.
use Rattle.std.specs.Prelude.{◌≡◌, ℕ, zero, suc, ◌<◌, ◌≤◌, ◌≢◌, ◌⊎◌, List, ◌∷◌, ◌++◌, length, Bool, Contains}
use Rattle.cqa_value.specs.declared.value.Value.{Value}
use Rattle.cqa_model.specs.declared.query.Query.{Query}
use Rattle.cqa_model.specs.Database.{Table, stored}
use Rattle.cqa_model.specs.Repairs.{SharesKey}
use Rattle.cqa_model.specs.Query.{atom_key, rows_of, row_at}
use Rattle.cqa_model.specs.Plan.{Placed, IsUnattacked, IsPlan}
use Rattle.cqa_model.specs.Variables.{after}
use Rattle.cqa_model.specs.Partial.{view_of, AllFit, IsPartial}
use Rattle.plan_rows.specs.Underway.{IsUnderway}
use Rattle.plan_repair.specs.declared.way.Way.{Way}
use Rattle.repair_back.specs.Flags.{kept_tables, flags_of, AreRepairFlags}

-- a witness with these rows taken whose other rows are flagged
abbrev pub IsKeptWitness : List Table → Query → List Value → List Placed → List (List Bool) → List (List Value) → Type 0
IsKeptWitness db q row taken flags w = IsPartial q row taken (kept_tables (stored db) flags) w

-- there is none
abbrev pub HasNone : List Table → Query → List Value → List Placed → List (List Bool) → Type 0
HasNone db q row taken flags = (w : List (List Value)) → IsKeptWitness db q row taken flags w → ⊥

-- there is none whose row of F is in x's block
abbrev pub Lacks : List Table → Query → List Value → List Placed → ℕ → List (List Bool) → List Value → Type 0
Lacks db q row taken F flags x = (w : List (List Value)) → IsKeptWitness db q row taken flags w → SharesKey (atom_key q F) x (row_at w F) → ⊥

-- a row of such a witness is exchanged for a row of its block, and nothing else changes
pub record IsMendingStep (db : List Table) (q : Query) (row : List Value) (taken : List Placed) (old new : List (List Bool)) : Type 0 where
  pub witness : List (List Value)
  pub atom : ℕ
  pub into : List Value
  pub is_kept : IsKeptWitness db q row taken old witness
  pub has : (view_of q taken).has atom
  pub there : Contains (rows_of q (stored db) atom) into
  pub shares : SharesKey (atom_key q atom) (row_at witness atom) into
  pub here : (x : List Value) → Contains (rows_of q (kept_tables (stored db) new) atom) x → (x ≡ into) ⊎ Contains (rows_of q (kept_tables (stored db) old) atom) x
  pub elsewhere : (H : ℕ) → H < length q.atoms → H ≢ atom → flags_of q new H ≡ flags_of q old H

-- so many such steps lead from one choice to another
abbrev pub IsReachedIn : List Table → Query → List Value → List Placed → ℕ → List (List Bool) → List (List Bool) → Type 0
IsReachedIn db q row taken zero old new = old ≡ new
IsReachedIn db q row taken (suc n) old new = (flags : List (List Bool)) × IsMendingStep db q row taken old flags × AreRepairFlags q db flags × IsReachedIn db q row taken n flags new

abbrev pub IsReachedBySteps : List Table → Query → List Value → List Placed → List (List Bool) → List (List Bool) → Type 0
IsReachedBySteps db q row taken old new = (n : ℕ) × IsReachedIn db q row taken n old new

-- there is no witness of the row with the first rows taken, where these are at least so many
abbrev pub HasNoneFrom : List Table → Query → List Value → List Placed → List (List Bool) → ℕ → Type 0
HasNoneFrom db q row taken flags count = (later first : List Placed) → taken ≡ later ++ first → count ≤ length first → HasNone db q row first flags

-- Some rows were taken along the way, and a rest of the plan is left.
pub record IsHere (way : Way) (taken : List Placed) (left : List ℕ) : Type 0 where
  pub underway : IsUnderway way.course.now taken left
  pub taken_fit : AllFit way.course.now.setting.bound.now.query.now way.row.now taken
  pub plan : IsPlan way.course.now.setting.bound.now.query.now (view_of way.course.now.setting.bound.now.query.now taken) left

-- Some rows were taken along the way, and an atom that none attacks comes next, with the rest of the plan behind it.
pub record IsNextAtom (way : Way) (taken : List Placed) (atom : ℕ) (rest : List ℕ) : Type 0 where
  pub underway : IsUnderway way.course.now taken (atom ∷ rest)
  pub taken_fit : AllFit way.course.now.setting.bound.now.query.now way.row.now taken
  pub has : (view_of way.course.now.setting.bound.now.query.now taken).has atom
  pub free : IsUnattacked way.course.now.setting.bound.now.query.now (view_of way.course.now.setting.bound.now.query.now taken) atom
  pub plan : IsPlan way.course.now.setting.bound.now.query.now (after way.course.now.setting.bound.now.query.now (view_of way.course.now.setting.bound.now.query.now taken) atom) rest
  pub there : atom < length way.course.now.setting.bound.now.query.now.atoms
