use Rattle.std.proofs.Common.{ℕ, ◌<◌}
use Rattle.key_closure.specs.Sets.{Has}
use Rattle.key_closure.proofs.variable_set.VarSet.is_within.Given as goal

abbrev pub invariant-loop-k : goal.invariant-loop-k
invariant-loop-k l = (j : ℕ) → j < l.k → Has l.self j → Has l.other j
