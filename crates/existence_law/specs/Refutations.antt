-- Each formula that no assignment satisfies has a refutation.
use Rattle.std.specs.Prelude.{ℕ, Bool, List, length}
use Rattle.cnf_form.specs.declared.formula.Cnf.{Cnf}
use Rattle.cnf_form.specs.declared.log.Step.{Step}
use Rattle.cnf_form.specs.Literals.{literals, SatisfiesAll}
use Rattle.cnf_form.specs.Logs.{Refutes, AreConsecutive}

-- Steps that are additions alone, under the ids that follow those of the clauses, refute a formula that no assignment satisfies.
abbrev pub RefutationsExist : Type 0
RefutationsExist = (cnf : Cnf) → ((v : ℕ → Bool) → SatisfiesAll v (literals cnf.clauses) → ⊥) → (steps : List Step) × (Refutes cnf steps × AreConsecutive (length cnf.clauses) steps)
