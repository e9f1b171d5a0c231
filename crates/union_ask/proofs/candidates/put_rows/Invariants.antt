use Rattle.std.specs.Vec.Iter.{into_iter_items}
use Rattle.union_ask.proofs.Sets.{ArePutTo}
use Rattle.union_ask.proofs.candidates.put_rows.Given as goal

-- the rows that were put in and those to come are all of them
abbrev pub invariant-loop-row : goal.invariant-loop-row
invariant-loop-row l = ArePutTo l.fn.rows.items (into_iter_items l.initial.row-iterator) l.rows.items (into_iter_items l.row-iterator)
