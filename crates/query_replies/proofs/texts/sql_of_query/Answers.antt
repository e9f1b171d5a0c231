use Rattle.std.proofs.Common.{IfSome, subst}
use Rattle.cqa_model.specs.declared.query.Plan.{Plan}
use Rattle.cqa_model.specs.Plan.{IsPlanOf}
use Rattle.query_replies.proofs.Found.{none_found}
use Rattle.query_replies.proofs.texts.sql_of_query.Goals as goal

pub text_of-text-requires : goal.text_of-text-requires
text_of-text-requires c = subst (λ found. IfSome found (λ (plan : Plan). IsPlanOf c.args.bound.now.query.now plan.order)) c.in-Some.is c.in_ok-plan.ensures.plan

pub returns-in_default-clause-none : goal.returns-in_default-clause-none
returns-in_default-clause-none c u = c.in_ok-plan.ensures.cycle.0 (none_found c.in_ok-plan.field-0 c.in_default.not-Some)
