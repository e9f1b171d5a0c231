use Rattle.std.proofs.Common.{◌≤◌, ◌-◌, length}
use Rattle.row_lists.proofs.Halving.{IsBetween}
use Rattle.row_lists.proofs.numbering.last_begun.Given as goal

-- a span with the place is between the bounds
abbrev pub invariant-loop-high : goal.invariant-loop-high
invariant-loop-high l = record {
  apart : l.low ≤ l.high;
  within : l.high ≤ length l.spans;
  between : IsBetween l.spans l.slot l.place l.low l.high;
}

abbrev pub decreases-loop-high : goal.decreases-loop-high
decreases-loop-high l = l.high - l.low
