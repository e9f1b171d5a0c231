use Rattle.query_resolve.specs.Checks.{answer_kinds}
use Rattle.query_resolve.proofs.Alike.{OthersSoFar}
use Rattle.query_resolve.proofs.unions.check_others.Given as goal

abbrev pub invariant-loop-at : goal.invariant-loop-at
invariant-loop-at l = OthersSoFar l.first.db.now (answer_kinds l.first.db.now l.first.query.now) l.others l.at
