use Rattle.cqa_model.specs.Variables.{whole}
use Rattle.cqa_model.proofs.Elimination.{plan-eliminates}
use Rattle.cqa_model.proofs.PlanAtoms.{plan-atoms}
use Rattle.plan_reasons.proofs.reason.by_paths.Goals as goal

pub ways_of-requires : goal.ways_of-requires
ways_of-requires c = plan-atoms c.args.bound.now.query.now c.args.plan.now.order (plan-eliminates c.args.bound.now.query.now (whole c.args.bound.now.query.now) c.args.plan.now.order c.requires.plan)
