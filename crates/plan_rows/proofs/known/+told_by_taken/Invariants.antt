use Rattle.std.proofs.Common.{length}
use Rattle.plan_rows.specs.Taking.{placed}
use Rattle.plan_rows.proofs.known.+told_by_taken.Given as goal

abbrev pub decreases-told_by_taken : goal.decreases-told_by_taken
decreases-told_by_taken l = length (placed l.taken.now)
