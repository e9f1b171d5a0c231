-- The atoms of a plan that are left.
use Rattle.std.specs.Prelude.{◌≡◌, ◌≢◌, All, ℕ, ◌<◌, List, [], ◌++◌, length, slice_index_or, Contains}
use Rattle.cqa_model.specs.declared.query.ColRef.{ColRef}
use Rattle.cqa_model.specs.declared.query.Query.{Query}
use Rattle.cqa_model.specs.Query.{atom_at}
use Rattle.cqa_model.specs.Variables.{AreLinked}

-- the plan names atoms of the query
abbrev pub AreQueryAtoms : Query → List ℕ → Type 0
AreQueryAtoms q plan = (F : ℕ) → Contains plan F → F < length q.atoms

-- no answer column is of an atom of the plan
abbrev pub IsAnswerSettled : Query → List ℕ → Type 0
IsAnswerSettled q plan = All (λ F. All (λ column. column.atom ≢ F) q.answer) plan

-- one of these atoms has a column that is linked to this one
abbrev pub IsTold : Query → List ℕ → ColRef → Type 0
IsTold q atoms c = (F i : ℕ) × Contains atoms F × (i < (atom_at q F).width) × AreLinked q (record { atom = F; col = i }) c

-- columns among which are all those of the atoms in front that are linked to columns of the others
abbrev pub HasShared : Query → List ℕ → List ℕ → List ColRef → Type 0
HasShared q front rest columns = (G j : ℕ) → Contains front G → j < (atom_at q G).width → IsTold q rest (record { atom = G; col = j }) → Contains columns (record { atom = G; col = j })

-- so it is wherever an order is parted, as far as there are such columns
abbrev pub AreSharedInParts : Query → List ℕ → List (List ColRef) → Type 0
AreSharedInParts q order shared = (front rest : List ℕ) → order ≡ front ++ rest → length front < length shared → HasShared q front rest (slice_index_or shared (length front) [])
