use Rattle.pair_answers.proofs.Listing.{AreListedSoFar}
use Rattle.pair_answers.proofs.lists.append_lists.Given as goal

abbrev pub invariant-loop-x : goal.invariant-loop-x
invariant-loop-x l = AreListedSoFar l.side.bound.now.query.now l.side.row.now l.side.columns.now l.side.atom l.rows l.x-iterator l.initial.lists.items l.lists.items
