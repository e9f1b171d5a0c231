-- Which logs pass over a formula, and which refute it. Clauses are live under ids, and an addition follows from live
-- clauses by unit propagation in the order of its hints (LRAT without its RAT steps: Cruz-Filipe, Heule, Hunt, Kaufmann
-- and Schneider-Kamp, CADE 2017).
use Rattle.std.specs.Prelude.{◌≡◌, ◌≢◌, ℕ, zero, suc, ◌<◌, ◌+◌, ℤ, pos, negsuc, List, [], ◌∷◌, ◌⊎◌, map, Contains, length, Bool, Option, Some, None, slice_get, eqb}
use Rattle.std.specs.Map.{update}
use Rattle.cnf_form.specs.declared.formula.Lit.{Lit}
use Rattle.cnf_form.specs.declared.formula.Cnf.{Cnf}
use Rattle.cnf_form.specs.declared.log.Step.{Step}
use Rattle.cnf_form.specs.declared.log.Step.TheVariants.{Add, Delete}
use Rattle.cnf_form.specs.Literals.{literals, opposite, AllDenied, IsUnit, HasBothSigns, Satisfies, SatisfiesAll}

-- the clauses under their ids
abbrev pub Live : Type 0
Live = ℕ → Option (List Lit)

-- the clauses of a formula, under the ids from 1 on
abbrev pub numbered : List (List Lit) → Live
numbered cs zero = None
numbered cs (suc k) = slice_get cs k

abbrev pub with_clause : Live → ℕ → List Lit → Live
with_clause live id c = update eqb live id (Some c)

abbrev pub without : Live → ℕ → Live
without live id = update eqb live id None

-- Some prefix of the hints names live clauses. Each before the last has one literal that the held ones do not deny,
-- which joins them, and all literals of the last are denied.
abbrev pub HintsPass : Live → List Lit → List ℤ → Type 0
HintsPass live held [] = ⊥
HintsPass live held (negsuc n ∷ hints) = ⊥
HintsPass live held (pos id ∷ hints) =
    (c : List Lit) × (live id ≡ Some c) × (AllDenied held c ⊎ ((l : Lit) × IsUnit held c l × HintsPass live (l ∷ held) hints))

-- A clause with both signs of a variable passes; any other by its hints, with its own literals held false.
abbrev pub AdditionPasses : Live → List Lit → List ℤ → Type 0
AdditionPasses live c hints = HasBothSigns c ⊎ HintsPass live (map opposite c) hints

-- The ids are live, each when its turn comes.
abbrev pub DeletionPasses : Live → List ℕ → Type 0
DeletionPasses live [] = Unit {0}
DeletionPasses live (id ∷ ids) = (live id ≢ None) × DeletionPasses (without live id) ids

abbrev pub after_deletion : Live → List ℕ → Live
after_deletion live [] = live
after_deletion live (id ∷ ids) = after_deletion (without live id) ids

-- A step passes over the live clauses and the greatest id so far.
abbrev pub StepPasses : Live → ℕ → Step → Type 0
StepPasses live top (Add id clause hints) = (top < id) × AdditionPasses live clause.lits hints
StepPasses live top (Delete ids) = DeletionPasses live ids

abbrev pub live_after : Live → Step → Live
live_after live (Add id clause hints) = with_clause live id clause.lits
live_after live (Delete ids) = after_deletion live ids

abbrev pub top_after : ℕ → Step → ℕ
top_after top (Add id clause hints) = id
top_after top (Delete ids) = top

-- The steps pass in order.
abbrev pub StepsPass : Live → ℕ → List Step → Type 0
StepsPass live top [] = Unit {0}
StepsPass live top (step ∷ steps) = StepPasses live top step × StepsPass (live_after live step) (top_after top step) steps

-- The steps pass over the clauses of the formula.
abbrev pub Passes : Cnf → List Step → Type 0
Passes cnf steps = StepsPass (numbered (literals cnf.clauses)) (length cnf.clauses) steps

-- the added clauses
abbrev pub added : List Step → List (List Lit)
added [] = []
added (Add id clause hints ∷ steps) = clause.lits ∷ added steps
added (Delete ids ∷ steps) = added steps

-- The steps pass, and one adds the empty clause.
abbrev pub Refutes : Cnf → List Step → Type 0
Refutes cnf steps = Passes cnf steps × Contains (added steps) []

-- additions alone, under the ids that follow n
abbrev pub AreConsecutive : ℕ → List Step → Type 0
AreConsecutive n [] = Unit {0}
AreConsecutive n (Add id clause hints ∷ steps) = (id ≡ n + 1) × AreConsecutive (n + 1) steps
AreConsecutive n (Delete ids ∷ steps) = ⊥

-- An assignment that satisfies a formula satisfies each clause that a passing log adds.
abbrev pub AdditionsFollow : Type 0
AdditionsFollow = (cnf : Cnf) (steps : List Step) → Passes cnf steps → (c : List Lit) → Contains (added steps) c → (v : ℕ → Bool) → SatisfiesAll v (literals cnf.clauses) → Satisfies v c

-- No assignment satisfies a formula that a log refutes.
abbrev pub RefutedIsUnsatisfiable : Type 0
RefutedIsUnsatisfiable = (cnf : Cnf) (steps : List Step) → Refutes cnf steps → (v : ℕ → Bool) → SatisfiesAll v (literals cnf.clauses) → ⊥
