-- Partial queries: the rows of some atoms are taken, and only those of the others need be kept.
use Rattle.std.specs.Prelude.{◌≡◌, ◌≢◌, ℕ, ◌↔◌, ◌⊎◌, List, [], ◌∷◌, length, map, Contains, slice_index_or}
use Rattle.cqa_value.specs.declared.value.Value.{Value}
use Rattle.cqa_model.specs.declared.query.Cond.{Cond}
use Rattle.cqa_model.specs.declared.query.Query.{Query}
use Rattle.cqa_model.specs.Database.{Table}
use Rattle.cqa_model.specs.Repairs.{SharesKey, IsRepair}
use Rattle.cqa_model.specs.Query.{atom_at, atom_key, rows_of, row_at, value, CondHolds}
use Rattle.cqa_model.specs.Variables.{View, whole, after}
use Rattle.cqa_model.specs.Plan.{Placed, Fits}

-- the view after the atoms of these rows, the last taken first
abbrev pub view_of : Query → List Placed → View
view_of q [] = whole q
view_of q (t ∷ ts) = after q (view_of q ts) t.atom

-- each of the rows was of an atom that was left, and fits those before it
abbrev pub AllFit : Query → List Value → List Placed → Type 0
AllFit q row [] = Unit {0}
AllFit q row (t ∷ ts) = (view_of q ts).has t.atom × Fits q row ts t.atom t.row × AllFit q row ts

-- a witness with the rows taken whose other rows are kept
pub record IsPartial (q : Query) (row : List Value) (taken : List Placed) (kept : List (List (List Value))) (w : List (List Value)) : Type 0 where
  pub size : length w ≡ length q.atoms
  pub keeps : (F : ℕ) → (view_of q taken).has F → Contains (rows_of q kept F) (row_at w F)
  pub holds : (k : Cond) → Contains q.conds k → CondHolds w k
  pub answers : map (value w) q.answer ≡ row
  pub extends : (t : Placed) → Contains taken t → row_at w t.atom ≡ t.row

-- a repair holds a witness of the partial query
abbrev pub HoldsPartial : Query → List Value → List Placed → List (List (List Value)) → Type 0
HoldsPartial q row taken kept = (w : List (List Value)) × IsPartial q row taken kept w

-- the key of a row x is one of the repair's keys of F: the repair holds a witness whose row of F has it
abbrev pub HasKey : Query → List Value → List Placed → ℕ → List (List (List Value)) → List Value → Type 0
HasKey q row taken F kept x = (w : List (List Value)) × IsPartial q row taken kept w × SharesKey (atom_key q F) x (row_at w F)

-- of two repairs, the new one is the old one with the row b in place of a row a of G, both of one block
pub record IsExchange (db : List Table) (q : Query) (G : ℕ) (a b : List Value) (old new : List (List (List Value))) : Type 0 where
  pub old_repair : IsRepair db old
  pub new_repair : IsRepair db new
  pub out : Contains (rows_of q old G) a
  pub shares : SharesKey (atom_key q G) a b
  pub own : (x : List Value) → Contains (rows_of q new G) x ↔ ((x ≡ b) ⊎ (Contains (rows_of q old G) x × (x ≢ a)))
  pub others : (t : ℕ) → t ≢ (atom_at q G).table → slice_index_or new t [] ≡ slice_index_or old t []
