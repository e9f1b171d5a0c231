use Rattle.std.proofs.Common.{◌<◌, ◌≤◌, ◌-◌, length}
use Rattle.pair_formula.specs.Full.{IsInRow}
use Rattle.pair_formula.proofs.full.run_end.Given as goal

-- the rows so far are a run
abbrev pub invariant-loop-end : goal.invariant-loop-end
invariant-loop-end l = record {
  some : l.at < l.end;
  within : l.end ≤ length l.places;
  run : IsInRow l.key l.rows l.places l.at l.end;
}

abbrev pub decreases-loop-end : goal.decreases-loop-end
decreases-loop-end l = length l.places - l.end
