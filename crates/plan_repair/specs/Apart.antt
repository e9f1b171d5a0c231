-- Atoms that bring nothing to what is left of a plan.
use Rattle.std.specs.Prelude.{◌≡◌, ℕ, ◌<◌, ◌≤◌, List, ◌++◌, length, take, drop, slice_index_or, Contains}
use Rattle.cqa_model.specs.declared.query.ColRef.{ColRef}
use Rattle.cqa_model.specs.declared.query.Query.{Query}
use Rattle.cqa_model.specs.Query.{atom_at}
use Rattle.plan_rows.specs.Left.{IsTold}

-- a column that is linked to one of the rest's is linked to one of the atoms before
abbrev pub BringsNone : Query → List ℕ → ColRef → List ℕ → Type 0
BringsNone q before c rest = IsTold q rest c → IsTold q before c

-- so it is of each column of an atom
abbrev pub IsAtomApart : Query → List ℕ → ℕ → List ℕ → Type 0
IsAtomApart q before G rest = (j : ℕ) → j < (atom_at q G).width → BringsNone q before (record { atom = G; col = j }) rest

-- so many first atoms of an order, or more, have all that those between them and a rest share with the rest
abbrev pub ArePartsApart : Query → List ℕ → List ℕ → ℕ → Type 0
ArePartsApart q order rest n = (front between : List ℕ) → order ≡ front ++ (between ++ rest) → n ≤ length front → (G : ℕ) → Contains between G → IsAtomApart q front G rest

-- from so many on, the atoms before a place bring nothing to those behind it; as far as there are numbers
abbrev pub AreEnough : Query → List ℕ → List ℕ → Type 0
AreEnough q order enough = (place : ℕ) → place < length enough → (k : ℕ) → slice_index_or enough place 0 ≤ k → k < place → IsAtomApart q (take k order) (slice_index_or order k 0) (drop place order)
