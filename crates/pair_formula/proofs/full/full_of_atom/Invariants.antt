use Rattle.std.proofs.Common.{◌-◌, length}
use Rattle.row_lists.specs.Runs.{AreRowPlaces}
use Rattle.pair_formula.proofs.FullRuns.{AreFullTo}
use Rattle.pair_formula.proofs.full.full_of_atom.Given as goal

-- the runs so far are done
abbrev pub invariant-loop-at : goal.invariant-loop-at
invariant-loop-at l = record {
  places : AreRowPlaces l.rows l.places;
  done : AreFullTo l.key l.rows l.places l.atom l.base l.at l.vars l.spans.items;
}

abbrev pub decreases-loop-at : goal.decreases-loop-at
decreases-loop-at l = length l.places - l.at
