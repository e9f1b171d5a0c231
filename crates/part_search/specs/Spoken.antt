-- The columns of a table that a union speaks of.
use Rattle.std.specs.Prelude.{◌≡◌, ◌⊎◌, ℕ, ◌<◌, List, length, Contains}
use Rattle.cqa_model.specs.declared.query.ColRef.{ColRef}
use Rattle.cqa_model.specs.declared.query.Cond.{Cond}
use Rattle.cqa_model.specs.declared.query.Query.{Query}
use Rattle.cqa_model.specs.Shape.{columns_of}
use Rattle.cqa_model.specs.Query.{atom_at}

-- a condition or the answer speaks of the column
abbrev pub IsSpokenOf : Query → ColRef → Type 0
IsSpokenOf q c = ((k : Cond) × Contains q.conds k × Contains (columns_of k) c) ⊎ Contains q.answer c

-- nothing is lost from a list
abbrev pub LosesNone : List ℕ → List ℕ → Type 0
LosesNone old new = (p : ℕ) → Contains old p → Contains new p

-- the column is among the columns of an atom, if it is one of the atom's
abbrev pub HasColumn : ℕ → List ℕ → ColRef → Type 0
HasColumn atom columns c = c.atom ≡ atom → Contains columns c.col

-- all columns of the table that some part speaks of are among these
abbrev pub AreSpokenIn : List Query → ℕ → List ℕ → Type 0
AreSpokenIn parts t columns = (q : Query) → Contains parts q → (c : ColRef) → IsSpokenOf q c → c.atom < length q.atoms → (atom_at q c.atom).table ≡ t → Contains columns c.col
