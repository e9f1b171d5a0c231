use Rattle.std.proofs.Common.{IfSome, subst}
use Rattle.cqa_model.specs.Plan.{IsEliminationOf}
use Rattle.cqa_model.proofs.PlanAtoms.{plan-within}
use Rattle.fo_rewrite.proofs.passes.begin_with.Goals as goal

pub cost_of-cost-requires : goal.cost_of-cost-requires
cost_of-cost-requires c =
    let q = c.args.outset.now.named.now.query.now in
    plan-within q c.in-Ok-Some.plan.order c.as_slice.result.now c.as_slice.ensures (subst (λ found. IfSome found (λ plan. IsEliminationOf q plan.order)) c.in-Ok-Some.field-0-is c.in-Ok-Some.ensures.order)
