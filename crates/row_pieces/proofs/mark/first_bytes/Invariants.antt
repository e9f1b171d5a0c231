use Rattle.std.proofs.Common.{◌≡◌, ◌-◌, ◌<◌, ◌≤◌, ◌^◌, drop}
use Rattle.row_pieces.specs.Marks.{with_bytes}
use Rattle.row_pieces.proofs.mark.first_bytes.Given as goal

-- the number of the bytes so far, with which those that are left go on
abbrev pub invariant-loop-at : goal.invariant-loop-at
invariant-loop-at l = record {
  most : l.at ≤ 7;
  goes_on : with_bytes l.number (7 - l.at) (drop l.at l.text) ≡ with_bytes 0 7 l.text;
  small : l.number < 256 ^ l.at;
}
