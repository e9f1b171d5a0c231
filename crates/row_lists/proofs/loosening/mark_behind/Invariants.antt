use Rattle.std.proofs.Common.{◌≡◌, ◌≤◌, length}
use Rattle.row_lists.specs.Loose.{AreLoose}
use Rattle.row_lists.proofs.Loose.{IsAbove}
use Rattle.row_lists.proofs.loosening.mark_behind.Given as goal

-- the marks are right, and so is what was found at the last place
abbrev pub invariant-loop-at : goal.invariant-loop-at
invariant-loop-at l = record {
  size : length l.loose.items ≡ length l.places;
  within : l.at ≤ length l.places;
  loose : AreLoose l.key l.rows l.places l.loose.items;
  last : IsAbove l.key l.rows l.places l.at l.end l.last;
}

abbrev pub decreases-loop-at : goal.decreases-loop-at
decreases-loop-at l = l.at
