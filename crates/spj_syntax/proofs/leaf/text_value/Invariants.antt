use Rattle.std.proofs.Common.{◌≡◌, ◌≤◌, ◌-◌, ◌++◌, length, take, drop}
use Rattle.spj_syntax.specs.Lexemes.{undoubled}
use Rattle.spj_syntax.proofs.leaf.text_value.Given as goal

-- what stands before the place has been copied
abbrev pub invariant-loop-at : goal.invariant-loop-at
invariant-loop-at l = record {
  within : l.at ≤ length l.bytes;
  size : length l.value ≡ 1024;
  room : l.length ≤ 1024;
  value : undoubled l.bytes ≡ take l.length l.value ++ undoubled (drop l.at l.bytes);
}

abbrev pub decreases-loop-at : goal.decreases-loop-at
decreases-loop-at l = length l.bytes - l.at
