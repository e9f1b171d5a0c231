use Rattle.std.proofs.Common.{◌⊎◌, ◌↔◌, ℕ, Contains}
use Rattle.union_ask.proofs.Sets.{IsTableTo}
use Rattle.union_ask.proofs.frame.add_tables.Given as goal

-- the tables of the atoms so far
abbrev pub invariant-loop-atom : goal.invariant-loop-atom
invariant-loop-atom l = (t : ℕ) → Contains l.tables.items t ↔ (Contains l.initial.tables.items t ⊎ IsTableTo l.query l.atom-index t)
