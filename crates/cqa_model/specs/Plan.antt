-- Plans, and when a plan holds: the rewriting of a query over its unattacked atoms (Koutris and Wijsen, ACM TODS 2017).
use Rattle.std.specs.Prelude.{◌≡◌, ◌↔◌, ℕ, ◌<◌, List, [], ◌∷◌, length, Contains, slice_index_or}
use Rattle.cqa_value.specs.declared.value.Value.{Value}
use Rattle.cqa_model.specs.declared.query.Cond.{Cond}
use Rattle.cqa_model.specs.declared.query.Cond.TheVariants.{Join, Test}
use Rattle.cqa_model.specs.declared.query.ColRef.{ColRef}
use Rattle.cqa_model.specs.declared.query.Query.{Query}
use Rattle.cqa_model.specs.Database.{Table, nothing, stored}
use Rattle.cqa_model.specs.Repairs.{SharesKey}
use Rattle.cqa_model.specs.Query.{atom_at, atom_key, rows_of, OpHolds, FitsDatabase}
use Rattle.cqa_model.specs.Certain.{IsCertain}
use Rattle.cqa_model.specs.Variables.{AreLinked, View, whole, after}
use Rattle.cqa_model.specs.Graph.{Attacks}

-- a row that was taken for an atom
pub record Placed : Type 0 where
  pub atom : ℕ
  pub row : List Value

-- a test of F's columns holds for a row of F
abbrev pub TestHolds : ℕ → List Value → Cond → Type 0
TestHolds F x (Join c d) = Unit {0}
TestHolds F x (Test c op y) = c.atom ≡ F → OpHolds op (slice_index_or x c.col nothing) y

-- the column at a place of the answer
abbrev pub answer_at : Query → ℕ → ColRef
answer_at q i = slice_index_or q.answer i (record { atom = 0; col = 0 })

-- a row x of F fits the rows taken so far and the candidate: each variable has one value among x and the rows, x meets
-- the tests of F's columns, and it gives F's answer columns
pub record Fits (q : Query) (row : List Value) (taken : List Placed) (F : ℕ) (x : List Value) : Type 0 where
  pub agrees : (t : Placed) → Contains (record { atom = F; row = x } ∷ taken) t →
      (i : ℕ) → i < (atom_at q F).width → (j : ℕ) → j < (atom_at q t.atom).width →
      AreLinked q (record { atom = F; col = i }) (record { atom = t.atom; col = j }) → slice_index_or x i nothing ≡ slice_index_or t.row j nothing
  pub tests : (k : Cond) → Contains q.conds k → TestHolds F x k
  pub answers : (i : ℕ) → i < length q.answer → (answer_at q i).atom ≡ F →
      slice_index_or x (answer_at q i).col nothing ≡ slice_index_or row i nothing

-- an order of atoms holds for the rows taken so far and the candidate: the first atom has a block all of whose rows
-- fit, and for each of them the rest holds with that row taken
abbrev pub PlanHolds : Query → List (List (List Value)) → List Value → List Placed → List ℕ → Type 0
PlanHolds q tables row taken [] = Unit {0}
PlanHolds q tables row taken (F ∷ plan) =
    (x : List Value) × Contains (rows_of q tables F) x ×
    ((y : List Value) → Contains (rows_of q tables F) y → SharesKey (atom_key q F) x y →
    Fits q row taken F y × PlanHolds q tables row (record { atom = F; row = y } ∷ taken) plan)

-- a plan holds over a database for a candidate
abbrev pub HoldsOver : List Table → Query → List Value → List ℕ → Type 0
HoldsOver db q row plan = PlanHolds q (stored db) row [] plan

-- no atom of the view attacks F: its in-degree in the attack graph is zero (Koutris and Wijsen, ACM TODS 2017)
abbrev pub IsUnattacked : Query → View → ℕ → Type 0
IsUnattacked q view F = (G : ℕ) → Attacks q view G F → ⊥

-- an elimination order of a view: each atom of it is in the view after those before it, where no atom attacks it, and
-- none is left (Koutris and Wijsen, ACM TODS 2017)
abbrev pub IsElimination : Query → View → List ℕ → Type 0
IsElimination q view [] = (F : ℕ) → view.has F → ⊥
IsElimination q view (F ∷ order) = view.has F × IsUnattacked q view F × IsElimination q (after q view F) order

-- an elimination order of a query
abbrev pub IsEliminationOf : Query → List ℕ → Type 0
IsEliminationOf q order = IsElimination q (whole q) order

-- the elimination order that again and again takes the first atom that no atom attacks in the view after those before it
abbrev pub IsPlan : Query → View → List ℕ → Type 0
IsPlan q view [] = (F : ℕ) → view.has F → ⊥
IsPlan q view (F ∷ plan) =
    view.has F × IsUnattacked q view F × ((G : ℕ) → view.has G → G < F → IsUnattacked q view G → ⊥) × IsPlan q (after q view F) plan

-- the plan of a query
abbrev pub IsPlanOf : Query → List ℕ → Type 0
IsPlanOf q plan = IsPlan q (whole q) plan

-- over each database that the query fits, an order holds for a row of the answer's length exactly where the row is certain
abbrev pub IsExact : Query → List ℕ → Type 0
IsExact q plan = (db : List Table) (row : List Value) → FitsDatabase q db → length row ≡ length q.answer → HoldsOver db q row plan ↔ IsCertain db q row
