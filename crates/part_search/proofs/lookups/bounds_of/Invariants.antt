use Rattle.std.proofs.Common.{take}
use Rattle.part_search.specs.Lookups.{AreBoundsOf}
use Rattle.part_search.proofs.lookups.bounds_of.Given as goal

-- the parts so far, over the database
abbrev pub invariant-loop-query : goal.invariant-loop-query
invariant-loop-query l = AreBoundsOf l.parts.db.now (take l.query-index l.parts.queries.now) l.bounds.items
