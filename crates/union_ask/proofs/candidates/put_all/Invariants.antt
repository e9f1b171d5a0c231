use Rattle.std.specs.Vec.Iter.{into_iter_items}
use Rattle.union_ask.proofs.Sets.{ArePutTo}
use Rattle.union_ask.proofs.candidates.put_all.Given as goal

-- the rows that were put in and those to come are all of them
abbrev pub invariant-loop-row : goal.invariant-loop-row
invariant-loop-row l = ArePutTo l.initial.answers (into_iter_items l.initial.row-iterator) l.answers (into_iter_items l.row-iterator)
