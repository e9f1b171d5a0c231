-- What visits to clauses tell.
use Rattle.cnf_form.specs.Literals.{HasVar}
use Rattle.search_trail.specs.Trail.{At, IsUnassigned, held}
use Rattle.std.specs.Prelude.{◌≡◌, ◌<◌, ◌≤◌, ◌-◌, ℕ, Bool, false, slice_index_or, List, length, Contains, Option, None, Some, ◌++◌, ◌∷◌, [], take}
use Rattle.cnf_form.specs.declared.formula.Lit.{Lit}
use Rattle.cnf_form.specs.Literals.{literals}
use Rattle.cdcl.specs.Settled.{AllSettledTo}
use Rattle.search_trail.specs.declared.analysis.LearntClause.{LearntClause}
use Rattle.cdcl.specs.declared.solver.Solver.{Solver}
use Rattle.search_trail.specs.declared.trail.Entry.{Entry}
use Rattle.search_trail.specs.Analysis.{IsFalse, IsLearntClause}

-- the clause at a place has all its literals denied by the trail
abbrev pub IsConflict : Solver → ℕ → Type 0
IsConflict s k = (k < length s.clauses.items) × IsFalse (held s.trail.items) (literals s.clauses.items) k

-- no permanent clause forces anything that is not held
abbrev pub IsStill : Solver → Type 0
IsStill s = AllSettledTo s.permanent (held s.trail.items) (literals s.clauses.items)

abbrev pub ConflictIs : Solver → Option ℕ → Type 0
ConflictIs s None = IsStill s × (length s.trail.items ≤ s.head)
ConflictIs s (Some k) = IsConflict s k

-- every variable has a value
abbrev pub IsComplete : Solver → Type 0
IsComplete s = (v : ℕ) → 1 ≤ v → v < length s.places.items → HasVar (held s.trail.items) v

abbrev pub OpenVarIs : Solver → Option ℕ → Type 0
OpenVarIs s None = IsComplete s
OpenVarIs s (Some v) = (1 ≤ v) × (v < length s.places.items) × IsUnassigned (held s.trail.items) v

abbrev pub SearchIs : Solver → Option ℕ → Type 0
SearchIs s None = IsStill s × IsComplete s
SearchIs s (Some k) = IsConflict s k

-- the last level's start is gone, and the trail from there on
abbrev pub LeavesLevel : Solver → Solver → Type 0
LeavesLevel old new = (s : ℕ) × (old.level_starts.items ≡ new.level_starts.items ++ s ∷ []) × (new.trail.items ≡ take s old.trail.items)

abbrev pub IsPrefix : List Entry → List Entry → Type 0
IsPrefix new old = (k : ℕ) × (new ≡ take k old)

-- the trail has a value for each variable, and a literal of each clause
pub record IsModelled (db : List (List Lit)) (s : Solver) : Type 0 where
  pub complete : IsComplete s
  pub holds : (c : List Lit) → Contains db c → (l : Lit) × Contains c l × Contains (held s.trail.items) l

-- what is learnt from a conflict on the last level
abbrev pub IsLearnt : Solver → LearntClause → Type 0
IsLearnt s learnt = (start : ℕ) × At s.level_starts.items (length s.level_starts.items - 1) start
    × IsLearntClause (literals s.clauses.items) (held s.trail.items) start learnt.lits.items learnt.hints.items learnt.asserted learnt.end

-- the values of variables, from 1 on, make the literals true: those of variables below a number, and all
abbrev pub AgreesBelow : ℕ → List Bool → List Lit → Type 0
AgreesBelow n values t = (l : Lit) → Contains t l → 1 ≤ l.var → l.var < n → slice_index_or values (l.var - 1) false ≡ l.positive

abbrev pub AgreesWith : List Bool → List Lit → Type 0
AgreesWith values t = (l : Lit) → Contains t l → 1 ≤ l.var → slice_index_or values (l.var - 1) false ≡ l.positive
