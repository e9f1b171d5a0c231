use Rattle.std.proofs.Common.{ℕ, ◌<◌}
use Rattle.cqa_model.specs.Variables.{AreLinked}
use Rattle.plan_rows.proofs.shared.is_linked_to.Given as goal

-- no column so far is linked
abbrev pub invariant-loop-col : goal.invariant-loop-col
invariant-loop-col l = (i : ℕ) → i < l.col → AreLinked l.bound.query.now (record { atom = l.atom; col = i }) l.column → ⊥
