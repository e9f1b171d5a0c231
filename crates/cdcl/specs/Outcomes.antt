-- What the answers of a solver mean.
use Rattle.std.specs.Prelude.{◌≡◌, ℕ, ◌≤◌, ◌+◌, ◌-◌, ◌^◌, Bool, false, List, Contains, length, slice_index_or}
use Rattle.cnf_form.specs.declared.formula.Lit.{Lit}
use Rattle.cnf_form.specs.declared.formula.Cnf.{Cnf}
use Rattle.cnf_form.specs.Literals.{literals, SatisfiesAll}
use Rattle.cnf_form.specs.Logs.{Refutes, AreConsecutive}
use Rattle.cnf_form.specs.Spent.{NoVarTwice, IsSpentLog}
use Rattle.cdcl.specs.declared.outcome.Outcome.{Outcome}
use Rattle.cdcl.specs.declared.outcome.Outcome.TheVariants.{Sat, Unsat, Spent}

-- no clause holds a variable twice
abbrev pub IsOnce : Cnf → Type 0
IsOnce cnf = (c : List Lit) → Contains (literals cnf.clauses) c → NoVarTwice c

-- the assignment that gives variable i the value at place i - 1
abbrev pub assignment : List Bool → ℕ → Bool
assignment values v = slice_index_or values (v - 1) false

-- a value for each variable of the formula, which satisfy every clause
abbrev pub IsModel : Cnf → List Bool → Type 0
IsModel cnf values = (length values ≡ cnf.vars) × SatisfiesAll (assignment values) (literals cnf.clauses)

-- what each outcome says of the formula
abbrev pub OutcomeIs : Cnf → ℕ → Outcome → Type 0
OutcomeIs cnf budget (Sat values) = IsModel cnf values
OutcomeIs cnf budget (Unsat log) = Refutes cnf log.steps × AreConsecutive (length cnf.clauses) log.steps × (length log.steps ≤ budget + 1)
OutcomeIs cnf budget (Spent log) = IsSpentLog cnf budget log.steps

-- the same of a search that may forget clauses from a place on; where that is a place that a list can have, a spent log says nothing
abbrev pub AttemptIs : ℕ → Cnf → ℕ → Outcome → Type 0
AttemptIs permanent cnf budget (Sat values) = OutcomeIs cnf budget (Sat values)
AttemptIs permanent cnf budget (Unsat log) = OutcomeIs cnf budget (Unsat log)
AttemptIs permanent cnf budget (Spent log) = 2 ^ 64 - 1 ≤ permanent → OutcomeIs cnf budget (Spent log)
