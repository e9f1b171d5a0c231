use Rattle.std.proofs.Common.{◌∙◌, length}
use Rattle.sql_steps.proofs.Steps.{see-first, see-next}
use Rattle.sql_steps.proofs.fitting.Fitting.see_source.Goals as goal

pub loop-column-init : goal.loop-column-init
loop-column-init c = see-first c.args.vs.now c.args.place c.args.self.now

pub loop-column-preserved : goal.loop-column-preserved
loop-column-preserved c =
    see-next c.args.vs.now c.args.place c.loop-column.column (length c.args.vs.now) c.loop-column.self c.see.new.self c.loop-column-test.true c.in_ok-see.ensures
    ∙ c.loop-column.invariant
