use Rattle.plan_rows.specs.Over.{query_of}
use Rattle.fo_plan.proofs.Reached.{held-reached}
use Rattle.fo_plan.proofs.First.{rows-in_order, first-holds}
use Rattle.fo_plan.proofs.block.first_block.Goals as goal

pub first_of-found-requires-clause-sought : goal.first_of-found-requires-clause-sought
first_of-found-requires-clause-sought c = (held-reached c.args.step.now c.new-blocks.result c.args.row.now c.new-blocks.ensures).0

pub returns-clause-block : goal.returns-clause-block
returns-clause-block c =
    let step = c.args.step.now in
    let bound = step.course.now.setting.bound.now in
    first-holds step c.new-blocks.result c.args.row.now c.new-blocks.ensures (rows-in_order bound.db.now (query_of step) bound.database bound.fits step.atom step.there) c.first_of-found.result c.first_of-found.ensures.first
