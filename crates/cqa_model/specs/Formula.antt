-- The formula of a row, with the stored rows for variables: one clause for each relevant block, and one for each witness
-- (Dixit and Kolaitis, SAT 2019).
use Rattle.std.specs.Prelude.{◌≡◌, ℕ, ◌<◌, List, length, Contains, Bool, true, false}
use Rattle.cqa_value.specs.declared.value.Value.{Value}
use Rattle.cqa_model.specs.declared.query.Query.{Query}
use Rattle.cqa_model.specs.Repairs.{SharesKey}
use Rattle.cqa_model.specs.Query.{atom_key, rows_of, row_at, IsWitness}

-- the block of a row x of F is relevant: one of its rows is in a witness
abbrev pub IsRelevant : Query → List (List (List Value)) → List Value → ℕ → List Value → Type 0
IsRelevant q tables row F x = (w : List (List Value)) × IsWitness q tables row w × SharesKey (atom_key q F) x (row_at w F)

-- an assignment of the atoms' rows makes a row of each relevant block true, and a row of each witness false
pub record Satisfies (q : Query) (tables : List (List (List Value))) (row : List Value) (a : ℕ → List Value → Bool) : Type 0 where
  pub blocks : (F : ℕ) → F < length q.atoms → (x : List Value) → Contains (rows_of q tables F) x → IsRelevant q tables row F x →
      (y : List Value) × Contains (rows_of q tables F) y × SharesKey (atom_key q F) x y × (a F y ≡ true)
  pub witnesses : (w : List (List Value)) → IsWitness q tables row w → (F : ℕ) × (F < length q.atoms) × (a F (row_at w F) ≡ false)
