use Rattle.std.proofs.Common.{◌≡◌, ◌<◌, ◌⊎◌}
use Rattle.range_join.specs.Peaks.{best_at, IsTopPlace}
use Rattle.range_join.proofs.peaks.top_of.Given as goal

-- the place is the first of all as long as none was looked at
abbrev pub invariant-loop-place : goal.invariant-loop-place
invariant-loop-place l = ((l.top < l.place) ⊎ (l.top ≡ 0)) × IsTopPlace l.way (best_at l.col l.bests) l.place l.top
