use Rattle.std.proofs.Common.{take}
use Rattle.part_search.specs.Spoken.{AreSpokenIn}
use Rattle.part_search.proofs.scope.columns_of_table.Given as goal

-- the columns of the parts so far
abbrev pub invariant-loop-query : goal.invariant-loop-query
invariant-loop-query l = AreSpokenIn (take l.query-index l.parts) l.table l.columns.items
