use Rattle.std.proofs.Common.{◌≤◌, length}
use Rattle.search_trail.specs.Walks.{IsWalkedTo}
use Rattle.search_trail.proofs.implications.Implications.walk_to_start.Given as goal

abbrev pub invariant-loop-at : goal.invariant-loop-at
invariant-loop-at l = record {
  within : l.at ≤ length l.self.trail.now;
  walked : IsWalkedTo l.self l.at l.marks l.hints.items;
}

abbrev pub decreases-loop-at : goal.decreases-loop-at
decreases-loop-at l = l.at
