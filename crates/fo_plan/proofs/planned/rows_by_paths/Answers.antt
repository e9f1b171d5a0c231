use Rattle.cqa_model.specs.Variables.{whole}
use Rattle.cqa_model.proofs.PlanAtoms.{plan-all, plan-atoms}
use Rattle.fo_plan.proofs.Certainty.{certain-result}
use Rattle.fo_plan.proofs.planned.rows_by_paths.Goals as goal

pub ways_of-requires : goal.ways_of-requires
ways_of-requires c = plan-atoms c.args.bound.now.query.now c.args.plan.now.order c.requires.order

pub answers-rows-requires-clause-plan : goal.answers-rows-requires-clause-plan
answers-rows-requires-clause-plan c = plan-atoms c.args.bound.now.query.now c.args.plan.now.order c.requires.order

pub answers-rows-requires-clause-all : goal.answers-rows-requires-clause-all
answers-rows-requires-clause-all c = plan-all c.args.bound.now.query.now (whole c.args.bound.now.query.now) c.args.plan.now.order c.requires.order

pub returns : goal.returns
returns c = certain-result c.args.bound.now.db.now c.args.bound.now.query.now c.args.plan.now.order c.answers-rows.result c.args.bound.now.fits c.requires.exact c.answers-rows.ensures.ascending c.answers-rows.ensures.exactly
