-- When rows fit, part by part.
use Rattle.std.specs.Prelude.{◌≡◌, ℕ, ◌<◌, List, ◌∷◌, length, slice_index_or, Contains}
use Rattle.cqa_value.specs.declared.value.Value.{Value}
use Rattle.cqa_model.specs.declared.query.Cond.{Cond}
use Rattle.cqa_model.specs.declared.query.ColRef.{ColRef}
use Rattle.cqa_model.specs.declared.query.Query.{Query}
use Rattle.cqa_value.specs.Values.{nothing}
use Rattle.cqa_model.specs.Query.{atom_at}
use Rattle.cqa_model.specs.Variables.{AreLinked}
use Rattle.cqa_model.specs.Plan.{Placed, TestHolds, answer_at}

-- x and y have the same values in the first n columns
abbrev pub HaveSameFirst : List Value → List Value → ℕ → Type 0
HaveSameFirst x y n = (i : ℕ) → i < n → slice_index_or x i nothing ≡ slice_index_or y i nothing

-- x has in a column the value that y has in each of the first n columns of G that are linked to it
abbrev pub ColumnAgrees : Query → List Value → ColRef → List Value → ℕ → ℕ → Type 0
ColumnAgrees q x c y G n = (j : ℕ) → j < n → AreLinked q c (record { atom = G; col = j }) → slice_index_or x c.col nothing ≡ slice_index_or y j nothing

-- so it is for the first n columns of F
abbrev pub AgreesInFirst : Query → ℕ → List Value → ℕ → List Value → ℕ → Type 0
AgreesInFirst q F x G y n = (i : ℕ) → i < n → ColumnAgrees q x (record { atom = F; col = i }) y G (atom_at q G).width

-- a row of F agrees with each of these
abbrev pub AgreesAll : Query → ℕ → List Value → List Placed → Type 0
AgreesAll q F x taken = (t : Placed) → Contains taken t → AgreesInFirst q F x t.atom t.row (atom_at q F).width

-- a row fits but for the candidate
pub record Suits (q : Query) (taken : List Placed) (F : ℕ) (x : List Value) : Type 0 where
  pub agrees : AgreesAll q F x (record { atom = F; row = x } ∷ taken)
  pub tests : (k : Cond) → Contains q.conds k → TestHolds F x k

-- a row of F has the candidate's values in the first n answer columns, as far as they are F's
abbrev pub GivesFirst : Query → ℕ → List Value → List Value → ℕ → Type 0
GivesFirst q F x row n = (i : ℕ) → i < n → (answer_at q i).atom ≡ F → slice_index_or x (answer_at q i).col nothing ≡ slice_index_or row i nothing

abbrev pub GivesCandidate : Query → ℕ → List Value → List Value → Type 0
GivesCandidate q F x row = GivesFirst q F x row (length q.answer)
