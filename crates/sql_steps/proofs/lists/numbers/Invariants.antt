use Rattle.std.proofs.Common.{◌≡◌}
use Rattle.sql_steps.specs.Variables.{all_below}
use Rattle.sql_steps.proofs.lists.numbers.Given as goal

-- the numbers so far
abbrev pub invariant-loop-number : goal.invariant-loop-number
invariant-loop-number l = l.list ≡ all_below l.number
