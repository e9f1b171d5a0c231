-- What sets of classes and of atoms say of a query: sets of variables, and views (Koutris and Wijsen, ACM TODS 2017).
use Rattle.std.specs.Prelude.{Option, Some, None, ◌≢◌, ◌≡◌, ℕ, ◌<◌, ◌↔◌, List, length, slice_index_or}
use Rattle.cqa_model.specs.declared.query.ColRef.{ColRef}
use Rattle.cqa_model.specs.declared.query.Query.{Query}
use Rattle.cqa_model.specs.declared.variable_class.Variables.{Variables}
use Rattle.cqa_model.specs.Shape.{IsInRange}
use Rattle.cqa_model.specs.Variables.{number, AreLinked, IsLeast, IsName, IsKeyVar}
use Rattle.cqa_model.specs.Variables.{View as Rest}
use Rattle.cqa_model.specs.Naming.{class_at, IsConstantClass}
use Rattle.key_closure.specs.declared.variable_set.VarSet.{VarSet}
use Rattle.key_closure.specs.declared.atom_set.AtomSet.{AtomSet}
use Rattle.key_closure.specs.declared.view.View.{View}
use Rattle.key_closure.specs.Sets.{Has, HasAtom}

-- the variable of c is in the set, by the number of its least column
abbrev pub IsIn : Query → VarSet → ColRef → Type 0
IsIn q s c = (d : ColRef) × IsInRange q.atoms d × AreLinked q c d × IsLeast q d × Has s (number d)

-- the set is exactly of these variables
abbrev pub IsSetOf : Query → VarSet → (ColRef → Type 0) → Type 0
IsSetOf q s P = (c : ColRef) → IsIn q s c ↔ P c

-- only names of the query's variables are in the set
abbrev pub IsProper : Query → VarSet → Type 0
IsProper q s = (k : ℕ) → Has s k → (c : ColRef) × IsInRange q.atoms c × IsName q c k

-- an atom of the query that is not gone
abbrev pub IsLeft : Query → View → ℕ → Type 0
IsLeft q view F = (F < length q.atoms) × (HasAtom view.gone F → ⊥)

-- what the two sets of a view leave of a query
abbrev pub seen : Query → View → Rest
seen q view = record { has = IsLeft q view; fixed = IsIn q view.fixed }

-- two views have the same atoms and the same fixed variables
pub record AreSame (a b : Rest) : Type 0 where
  pub has : (F : ℕ) → a.has F ↔ b.has F
  pub fixed : (c : ColRef) → a.fixed c ↔ b.fixed c

-- one of the query's atoms, and in the set
abbrev pub IsAmong : Query → AtomSet → ℕ → Type 0
IsAmong q s K = (K < length q.atoms) × HasAtom s K

-- another atom than this one, if one is given
abbrev pub IsOther : Option ℕ → ℕ → Type 0
IsOther None K = Unit {0}
IsOther (Some F) K = K ≢ F

-- an atom of the view, but for one
abbrev pub IsUsed : Query → View → Option ℕ → ℕ → Type 0
IsUsed q view without K = IsLeft q view K × IsOther without K

-- all of key(K) is in the set
abbrev pub IsReady : Query → View → VarSet → ℕ → Type 0
IsReady q view s K = (c : ColRef) → IsKeyVar q (seen q view) K c → IsIn q s c

-- neither a constant's class nor a fixed one
abbrev pub IsFreeClass : Variables → View → ℕ → Type 0
IsFreeClass v view k = (IsConstantClass v k → ⊥) × (Has view.fixed k → ⊥)

-- a free class of one of F's first n columns
abbrev pub IsVarClass : Variables → View → ℕ → ℕ → ℕ → Type 0
IsVarClass v view F n k = (j : ℕ) × (j < n) × IsFreeClass v view k × (k ≡ class_at v (record { atom = F; col = j }))

-- a free class of one of the first n columns of F's key
abbrev pub IsKeyClass : Variables → View → ℕ → List ℕ → ℕ → ℕ → Type 0
IsKeyClass v view F key n k = (j : ℕ) × (j < n) × IsFreeClass v view k × (k ≡ class_at v (record { atom = F; col = slice_index_or key j 0 }))
