use Rattle.std.proofs.Common.{map}
use Rattle.weak_pairs.specs.Packing.{list_of}
use Rattle.pair_answers.proofs.Listing.{AreListedSoFar}
use Rattle.pair_answers.proofs.lists.append_codes.Given as goal

abbrev pub invariant-loop-x : goal.invariant-loop-x
invariant-loop-x l = AreListedSoFar l.side.bound.now.query.now l.side.row.now l.side.columns.now l.side.atom l.rows l.x-iterator (map list_of l.initial.codes.items) (map list_of l.codes.items)
