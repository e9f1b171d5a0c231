use Rattle.std.proofs.Common.{◌↔◌, IfSome, IsNone, subst, true≢false}
use Rattle.cqa_model.specs.declared.query.Plan.{Plan}
use Rattle.cqa_model.specs.Variables.{whole}
use Rattle.cqa_model.specs.Graph.{HasCycle}
use Rattle.cqa_model.specs.Plan.{IsPlanOf, IsExact}
use Rattle.cqa_model.proofs.Elimination.{plan-eliminates}
use Rattle.query_strategy.proofs.strategy.strategy_of.Goals as goal

pub returns-in-Some-clause-is : goal.returns-in-Some-clause-is
returns-in-Some-clause-is c =
    let q = c.args.query.now in
    let order = c.in-Some.plan.order in
    let acyclic = subst (λ found. IsNone found ↔ HasCycle q (whole q)) c.in-Some.is c.in_ok-plan.ensures.cycle in
    let plan : IsPlanOf q order = subst (λ found. IfSome found (λ (plan : Plan). IsPlanOf q plan.order)) c.in-Some.is c.in_ok-plan.ensures.plan in
    let exact : IsExact q order = subst (λ found. IfSome found (λ (plan : Plan). IsExact q plan.order)) c.in-Some.is c.in_ok-plan.ensures.exact in
    ((λ cycle. true≢false (acyclic.1 cycle)), plan-eliminates q (whole q) order plan, exact)
