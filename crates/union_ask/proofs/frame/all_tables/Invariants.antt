use Rattle.std.proofs.Common.{◌↔◌, ℕ, Contains, take}
use Rattle.part_search.specs.Parts.{IsTableIn}
use Rattle.union_ask.proofs.frame.all_tables.Given as goal

-- the tables of the parts so far
abbrev pub invariant-loop-query : goal.invariant-loop-query
invariant-loop-query l = (t : ℕ) → Contains l.tables.items t ↔ IsTableIn (take l.query-index l.parts) t
