use Rattle.std.proofs.Common.{subst}
use Rattle.std.specs.Option.{IfSome}
use Rattle.cqa_model.specs.declared.query.Plan.{Plan}
use Rattle.cqa_model.specs.Variables.{whole}
use Rattle.cqa_model.specs.Plan.{IsPlanOf}
use Rattle.cqa_model.proofs.Elimination.{plan-eliminates}
use Rattle.cqa_model.proofs.PlanAtoms.{plan-atoms}
use Rattle.call_tests.proofs.holding.says.Goals as goal

pub holds-held-requires : goal.holds-held-requires
holds-held-requires c =
    let query = c.args.bound.now.query.now in
    let order = c.in-Ok-Some.plan.order in
    let is = subst (λ found. IfSome found (λ (plan : Plan). IsPlanOf query plan.order)) c.in-Ok-Some.field-0-is c.in-Ok-Some.ensures.plan in
    plan-atoms query order (plan-eliminates query (whole query) order is)
