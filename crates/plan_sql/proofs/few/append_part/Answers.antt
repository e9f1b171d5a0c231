use Rattle.plan_sql.proofs.Steps.{part-pushed}
use Rattle.plan_sql.proofs.few.append_part.Goals as goal

pub loop-column-preserved : goal.loop-column-preserved
loop-column-preserved c =
    part-pushed c.args.vs.now c.args.known.now c.args.part.now c.loop-column.column c.args.only.now c.loop-column.only _ c.loop-column.invariant c.in_ok-append_column.ensures
