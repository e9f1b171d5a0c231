use Rattle.cqa_model.proofs.PlanAtoms.{plan-within}
use Rattle.fo_rewrite.proofs.passes.cheapest.Goals as goal

pub cost_of-cost-requires : goal.cost_of-cost-requires
cost_of-cost-requires c = plan-within c.args.outset.now.named.now.query.now c.args.plan.order _ c.as_slice-2.ensures c.requires.order
