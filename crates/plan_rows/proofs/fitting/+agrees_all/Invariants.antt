use Rattle.std.proofs.Common.{length}
use Rattle.plan_rows.specs.Taking.{placed}
use Rattle.plan_rows.proofs.fitting.+agrees_all.Given as goal

abbrev pub decreases-agrees_all : goal.decreases-agrees_all
decreases-agrees_all l = length (placed l.taken.now)
