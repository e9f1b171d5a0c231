use Rattle.std.proofs.Common.{◌≡◌, ℕ, ◌<◌, [], length, get_or}
use Rattle.sql_steps.specs.Variables.{variables_of}
use Rattle.sql_steps.proofs.shape.shape_of.Given as goal

-- the variables of the atoms so far
abbrev pub invariant-loop-atom : goal.invariant-loop-atom
invariant-loop-atom l = record {
  size : length l.lists ≡ l.atom;
  each : (F : ℕ) → F < l.atom → get_or l.lists F [] ≡ variables_of l.query F;
}
