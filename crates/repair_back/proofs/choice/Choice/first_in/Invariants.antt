use Rattle.std.proofs.Common.{◌≡◌, ℕ, ◌≤◌, ◌<◌, ◌-◌, false, slice_index_or}
use Rattle.repair_back.proofs.choice.Choice.first_in.Given as goal

-- no flag is set so far
abbrev pub invariant-loop-at : goal.invariant-loop-at
invariant-loop-at l = record {
  after : l.start ≤ l.at;
  none : (i : ℕ) → l.start ≤ i → i < l.at → slice_index_or l.self i false ≡ false;
}

abbrev pub decreases-loop-at : goal.decreases-loop-at
decreases-loop-at l = l.end - l.at
