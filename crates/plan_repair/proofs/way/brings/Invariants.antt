use Rattle.std.proofs.Common.{ℕ, ◌<◌}
use Rattle.plan_repair.specs.Apart.{BringsNone}
use Rattle.plan_repair.proofs.way.brings.Given as goal

-- no column so far brings anything
abbrev pub invariant-loop-col : goal.invariant-loop-col
invariant-loop-col l = (j : ℕ) → j < l.col → BringsNone l.bound.query.now l.before (record { atom = l.atom; col = j }) l.rest
