use Rattle.std.proofs.Common.{take, Contains}
use Rattle.cnf_form.specs.declared.formula.Lit.{Lit}
use Rattle.cnf_form.specs.Literals.{MakesTrue}
use Rattle.cdcl.specs.Outcomes.{assignment}
use Rattle.merged_search.proofs.model.is_satisfied.Given as goal

-- no literal so far is true
abbrev pub invariant-loop-lit : goal.invariant-loop-lit
invariant-loop-lit l = (x : Lit) → Contains (take l.lit-index l.lits) x → MakesTrue (assignment l.values) x → ⊥
