use Rattle.std.proofs.Common.{◌≡◌, ◌≤◌, ◌+◌, ◌-◌, length, drop}
use Rattle.spj_syntax.specs.Lexemes.{undoubled}
use Rattle.spj_syntax.proofs.leaf.is_short.Given as goal

-- what stands before the place has been counted
abbrev pub invariant-loop-at : goal.invariant-loop-at
invariant-loop-at l = record {
  within : l.at ≤ length l.bytes;
  room : l.length ≤ 1024;
  value : length (undoubled l.bytes) ≡ l.length + length (undoubled (drop l.at l.bytes));
}

abbrev pub decreases-loop-at : goal.decreases-loop-at
decreases-loop-at l = length l.bytes - l.at
