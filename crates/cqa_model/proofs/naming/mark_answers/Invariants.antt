use Rattle.std.proofs.Common.{ℕ, ◌↔◌, ◌⊎◌}
use Rattle.cqa_model.specs.Naming.{IsAnswerClass, IsMarked}
use Rattle.cqa_model.proofs.naming.mark_answers.Given as goal

abbrev pub invariant-loop-col : goal.invariant-loop-col
invariant-loop-col l = (k : ℕ) → IsMarked l.marks k ↔ (IsMarked l.fn.marks k ⊎ IsAnswerClass l.class l.answer l.col-index k)
