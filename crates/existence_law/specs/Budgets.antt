-- What a search within a budget comes to.
use Rattle.std.specs.Prelude.{◌⊎◌, ◌≤◌, ◌+◌, ℕ, Bool, List, length}
use Rattle.cnf_form.specs.declared.formula.Cnf.{Cnf}
use Rattle.cnf_form.specs.declared.log.Step.{Step}
use Rattle.cnf_form.specs.Literals.{literals, AreVarsInRange, SatisfiesAll}
use Rattle.cnf_form.specs.Logs.{Refutes, AreConsecutive}
use Rattle.cnf_form.specs.Spent.{IsSpentLog}

-- The law: a formula that no assignment satisfies has a refutation of no more additions than a budget and one, under the ids that
-- follow those of its clauses; or a spent log for the budget.
abbrev pub BudgetsDecide : Type 0
BudgetsDecide = (cnf : Cnf) (budget : ℕ) → AreVarsInRange cnf → ((v : ℕ → Bool) → SatisfiesAll v (literals cnf.clauses) → ⊥) →
    ((steps : List Step) × (Refutes cnf steps × AreConsecutive (length cnf.clauses) steps × (length steps ≤ budget + 1))) ⊎ ((steps : List Step) × IsSpentLog cnf budget steps)
