-- What a search leaves as evidence.
use Rattle.std.specs.Prelude.{◌≡◌, ◌<◌, ◌≤◌, ◌+◌, ℕ, ℤ, List, [], ◌∷◌, ◌++◌, length, Contains, map}
use Rattle.cnf_form.specs.declared.formula.Lit.{Lit}
use Rattle.cnf_form.specs.declared.log.Step.{Step}
use Rattle.cnf_form.specs.declared.log.Step.TheVariants.{Add, Delete}
use Rattle.cnf_form.specs.Literals.{literals, opposite}
use Rattle.cnf_form.specs.Propagation.{ReachesEmpty, StaysOpen}
use Rattle.cnf_form.specs.Spent.{NoVarTwice}
use Rattle.cdcl.specs.declared.solver.Solver.{Solver}
use Rattle.cdcl.specs.declared.solver.Verdict.{Verdict}
use Rattle.cdcl.specs.declared.solver.Verdict.TheVariants.{Sat, Unsat, Spent}
use Rattle.cdcl.specs.State.{IsSound}
use Rattle.cdcl.specs.Visits.{IsModelled}
use Rattle.search_trail.specs.Trail.{At, AllInRange, AllLow}
use Rattle.search_trail.specs.Analysis.{ChainPasses}

-- no clause below the place is within the other
abbrev pub IsNewTo : ℕ → List (List Lit) → List Lit → Type 0
IsNewTo n db c = (k : ℕ) (d : List Lit) → k < n → At db k d → ((m : Lit) → Contains d m → Contains c m) → ⊥

-- an added clause: its hints pass, and it is new beside those that are permanent, not empty, and of the formula's variables, each once
pub record IsLine (permanent : ℕ) (db : List (List Lit)) (n : ℕ) (lits : List Lit) (hints : List ℤ) : Type 0 where
  pub passes : ChainPasses db (map opposite lits) hints
  pub fresh : IsNewTo permanent db lits
  pub once : NoVarTwice lits
  pub some : (l : Lit) × Contains lits l
  pub range : AllInRange lits n
  pub low : AllLow lits

-- the step adds the clause under the id, with the hints
abbrev pub Adds : Step → ℕ → List Lit → List ℤ → Type 0
Adds (Add id clause hints) n lits hs = (id ≡ n) × (clause.lits ≡ lits) × (hints ≡ hs)
Adds (Delete ids) n lits hs = ⊥

abbrev pub added_lits : Step → List Lit
added_lits (Add id clause hints) = clause.lits
added_lits (Delete ids) = []

abbrev pub learnt : List Step → List (List Lit)
learnt steps = map added_lits steps

abbrev pub IsLineStep : ℕ → List (List Lit) → ℕ → Step → Type 0
IsLineStep permanent db n (Add id clause hints) = (id ≡ length db + 1) × IsLine permanent db n clause.lits hints
IsLineStep permanent db n (Delete ids) = ⊥

-- Each added clause is a line over the clauses before it.
abbrev pub AreLines : ℕ → List (List Lit) → ℕ → List Step → Type 0
AreLines permanent db n [] = Unit {0}
AreLines permanent db n (step ∷ steps) = IsLineStep permanent db n step × AreLines permanent (db ++ added_lits step ∷ []) n steps

-- the empty clause, whose hints pass
abbrev pub IsLastStep : List (List Lit) → Step → Type 0
IsLastStep db (Add id clause hints) = (id ≡ length db + 1) × (clause.lits ≡ []) × ChainPasses db [] hints
IsLastStep db (Delete ids) = ⊥

-- the log is longer by that step
abbrev pub EndsLog : List (List Lit) → List Step → List Step → Type 0
EndsLog db old new = (last : Step) × (new ≡ old ++ last ∷ []) × IsLastStep db last

-- lines, and then the empty clause
pub record EndsEmpty (permanent : ℕ) (db : List (List Lit)) (n budget : ℕ) (log : List Step) : Type 0 where
  pub before : List Step
  pub last : Step
  pub shape : log ≡ before ++ last ∷ []
  pub lines : AreLines permanent db n before
  pub ends : IsLastStep (db ++ learnt before) last
  pub count : length before ≤ budget

-- as many lines as the budget, all of them permanent, and propagation stays short of an answer
pub record EndsSpent (permanent : ℕ) (db : List (List Lit)) (n budget : ℕ) (log : List Step) : Type 0 where
  pub lines : AreLines permanent db n log
  pub whole : length (db ++ learnt log) ≤ permanent
  pub count : length log ≡ budget
  pub stuck : ReachesEmpty (db ++ learnt log) → ⊥
  pub free : (v : ℕ) × (1 ≤ v) × (v < n) × StaysOpen (db ++ learnt log) v

-- from one solver to a later one: the clauses that came are the lines of the log
pub record HasLearnt (first now : Solver) (log : List Step) : Type 0 where
  pub permanent : now.permanent ≡ first.permanent
  pub len : length now.places.items ≡ length first.places.items
  pub db : literals now.clauses.items ≡ literals first.clauses.items ++ learnt log
  pub lines : AreLines first.permanent (literals first.clauses.items) (length first.places.items) log

-- how a search over the clauses ends; a log that is spent says nothing where some of its clauses may be forgotten
abbrev pub VerdictIs : ℕ → List (List Lit) → ℕ → ℕ → Solver → List Step → Verdict → Type 0
VerdictIs permanent db n budget s log Sat = IsSound s × (length s.places.items ≡ n) × IsModelled db s
VerdictIs permanent db n budget s log Unsat = EndsEmpty permanent db n budget log
VerdictIs permanent db n budget s log Spent = length s.clauses.items ≤ permanent → EndsSpent permanent db n budget log
