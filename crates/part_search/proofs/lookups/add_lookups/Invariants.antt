use Rattle.std.proofs.Common.{take}
use Rattle.part_search.specs.Lookups.{AreLookupsOf}
use Rattle.part_search.proofs.lookups.add_lookups.Given as goal

-- a lookup for each of the parts so far
abbrev pub invariant-loop-at : goal.invariant-loop-at
invariant-loop-at l = AreLookupsOf l.parts.db.now (take l.at l.parts.queries.now) l.lookups.items
