use Rattle.std.proofs.Common.{◌≡◌, None, drop}
use Rattle.range_join.specs.Peaks.{best_at, peak_from, held_value}
use Rattle.range_join.proofs.peaks.peak.Given as goal

-- the places that are left take it to the end
abbrev pub invariant-loop-place : goal.invariant-loop-place
invariant-loop-place l = peak_from l.way (held_value l.col l.best) (best_at l.col l.bests) (drop l.place-index l.places) ≡ peak_from l.way None (best_at l.col l.bests) l.places
