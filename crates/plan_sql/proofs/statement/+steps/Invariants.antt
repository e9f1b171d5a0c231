use Rattle.std.proofs.Common.{◌+◌, ◌*◌, length}
use Rattle.plan_sql.proofs.statement.+steps.Given as goal

abbrev pub decreases-push_made : goal.decreases-push_made
decreases-push_made l = 3 * length l.plan.now + 2

abbrev pub decreases-push_from : goal.decreases-push_from
decreases-push_from l = 3 * length l.plan.now + 1

abbrev pub decreases-push_later : goal.decreases-push_later
decreases-push_later l = 3 * length l.later.now + 3
