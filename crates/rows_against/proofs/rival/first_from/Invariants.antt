use Rattle.std.proofs.Common.{ℕ, ◌≤◌, ◌<◌, ◌-◌, length}
use Rattle.rows_against.specs.Parts.{IsBelow}
use Rattle.rows_against.proofs.rival.first_from.Given as goal

-- the index stands between the bounds
abbrev pub invariant-loop-low : goal.invariant-loop-low
invariant-loop-low l = record {
  after : l.from ≤ l.low;
  order : l.low ≤ l.high;
  within : l.high ≤ length l.names;
  before : (k : ℕ) → l.from ≤ k → k < l.low → IsBelow l.names l.table l.place k;
  behind : (k : ℕ) → l.high ≤ k → k < length l.names → IsBelow l.names l.table l.place k → ⊥;
}

abbrev pub decreases-loop-low : goal.decreases-loop-low
decreases-loop-low l = l.high - l.low
