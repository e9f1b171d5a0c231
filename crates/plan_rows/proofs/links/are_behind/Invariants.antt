use Rattle.std.proofs.Common.{ℕ, ◌+◌, ◌<◌, get_or, drop, Contains}
use Rattle.plan_rows.specs.Links.{atoms_on, links_at}
use Rattle.plan_rows.proofs.links.are_behind.Given as goal

-- the links of the atoms so far are behind them
abbrev pub invariant-loop-at : goal.invariant-loop-at
invariant-loop-at l = (k : ℕ) → k < l.at → (G : ℕ) → Contains (atoms_on (links_at l.ways (get_or l.order k 0))) G → Contains (drop (k + 1) l.order) G
