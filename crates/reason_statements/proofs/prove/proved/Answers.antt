use Rattle.std.proofs.Common.{IfSome, subst}
use Rattle.cqa_model.specs.declared.query.Plan.{Plan}
use Rattle.cqa_model.specs.Plan.{IsPlanOf, IsExact}
use Rattle.query_replies.proofs.Found.{none_found}
use Rattle.reason_statements.proofs.prove.proved.Goals as goal

pub by_plan-reply-requires-clause-plan : goal.by_plan-reply-requires-clause-plan
by_plan-reply-requires-clause-plan c = subst (λ found. IfSome found (λ (plan : Plan). IsPlanOf c.args.bound.now.query.now plan.order)) c.in-Some.is c.in_ok-plan.ensures.plan

pub by_plan-reply-requires-clause-exact : goal.by_plan-reply-requires-clause-exact
by_plan-reply-requires-clause-exact c = subst (λ found. IfSome found (λ (plan : Plan). IsExact c.args.bound.now.query.now plan.order)) c.in-Some.is c.in_ok-plan.ensures.exact

pub returns-in_default : goal.returns-in_default
returns-in_default c = c.in_ok-plan.ensures.cycle.0 (none_found c.in_ok-plan.field-0 c.in_default.not-Some)
