use Rattle.std.proofs.Common.{ℕ, ◌↔◌, ◌⊎◌}
use Rattle.cqa_model.specs.Naming.{IsTestClass, IsMarked}
use Rattle.cqa_model.proofs.naming.mark_tests.Given as goal

abbrev pub invariant-loop-cond : goal.invariant-loop-cond
invariant-loop-cond l = (k : ℕ) → IsMarked l.marks k ↔ (IsMarked l.fn.marks k ⊎ IsTestClass l.class l.conds l.cond-index k)
