use Rattle.std.proofs.Common.{ℕ, ◌<◌, get_or, Contains}
use Rattle.plan_rows.specs.declared.links.Link.{Link}
use Rattle.plan_rows.proofs.links.are_among.Given as goal

-- the links so far are among the atoms
abbrev pub invariant-loop-link : goal.invariant-loop-link
invariant-loop-link l = (k : ℕ) → k < l.link-index → (d : Link) → Contains l.atoms (get_or l.links k d).atom
