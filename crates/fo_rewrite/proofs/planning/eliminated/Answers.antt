use Rattle.std.proofs.Common.{◌≡◌, refl, true≢false}
use Rattle.cqa_model.specs.Variables.{whole}
use Rattle.cqa_model.proofs.Cycles.{plan_or_cycle}
use Rattle.cqa_model.proofs.Databases.{elimination_is_exact}
use Rattle.cqa_model.proofs.PlanAtoms.{plan-distinct}
use Rattle.fo_rewrite.proofs.PlanSteps.{planned-start, planned-more, planned-none, planned-some, planned-first, attacked-before}
use Rattle.fo_rewrite.specs.declared.preference.Choice.TheVariants.{First}
use Rattle.fo_rewrite.proofs.planning.eliminated.Goals as goal

pub take-init : goal.take-init
take-init c = record {
  planned = rw c.new-order.ensures (planned-start c.args.outset.now.named.now.query.now (c.args.choice ≡ First) c.args.outset.now.named.now.view c.left-left.result c.requires.whole c.left-left.ensures);
  attacked = c.requires.attacked;
}

pub take-preserved : goal.take-preserved
take-preserved c = record {
  planned = rw c.in_ok-push.ensures.ok
      (planned-more c.args.outset.now.named.now.query.now (c.args.choice ≡ First) c.take.view c.take.left c.remove.new.self c.take.order c.in-Some.atom c.after-view.result c.take.invariant.planned c.in-Some.ensures.next c.in-Some.ensures.first c.after-view.ensures.is c.remove.ensures.is);
  attacked = c.attacked_after-attacked.ensures;
}

pub attacked_after-attacked-requires : goal.attacked_after-attacked-requires
attacked_after-attacked-requires c = λ G a.
    (c.take.invariant.attacked G).1 (attacked-before c.args.outset.now.named.now.query.now c.take.view c.after-view.result c.in-Some.atom c.after-view.ensures.is G a)

pub invariant_of-result : goal.invariant_of-result
invariant_of-result c = record {
  apart = plan-distinct c.args.outset.now.named.now.query.now c.take.order (whole c.args.outset.now.named.now.query.now) (planned-some c.args.outset.now.named.now.query.now (c.args.choice ≡ First) c.take.view c.take.left c.full.result c.take.order c.take.invariant.planned c.full.ensures c.in-None.ensures);
}

pub returns-in-None-clause-plan : goal.returns-in-None-clause-plan
returns-in-None-clause-plan c = λ first. planned-first c.args.outset.now.named.now.query.now (c.args.choice ≡ First) c.take.view c.take.left c.full.result c.take.order c.take.invariant.planned c.full.ensures c.in-None.ensures first

pub returns-in-None-clause-order : goal.returns-in-None-clause-order
returns-in-None-clause-order c = planned-some c.args.outset.now.named.now.query.now (c.args.choice ≡ First) c.take.view c.take.left c.full.result c.take.order c.take.invariant.planned c.full.ensures c.in-None.ensures

pub returns-in-None-clause-cycle : goal.returns-in-None-clause-cycle
returns-in-None-clause-cycle c = (
  (λ e. absurd (true≢false e)),
  (λ h. absurd (plan_or_cycle.not_both c.args.outset.now.named.now.query.now c.take.order (planned-some c.args.outset.now.named.now.query.now (c.args.choice ≡ First) c.take.view c.take.left c.full.result c.take.order c.take.invariant.planned c.full.ensures c.in-None.ensures) h)),
)

pub returns-in-None-clause-exact : goal.returns-in-None-clause-exact
returns-in-None-clause-exact c = λ db row fits long.
    elimination_is_exact db c.args.outset.now.named.now.query.now row c.take.order fits long (planned-some c.args.outset.now.named.now.query.now (c.args.choice ≡ First) c.take.view c.take.left c.full.result c.take.order c.take.invariant.planned c.full.ensures c.in-None.ensures)

pub returns-in-Some-first_shared-clause-cycle : goal.returns-in-Some-first_shared-clause-cycle
returns-in-Some-first_shared-clause-cycle c = (
  (λ e. planned-none c.args.outset.now.named.now.query.now (c.args.choice ≡ First) c.take.view c.take.left c.take.order c.take.invariant.planned c.in_default.ensures.next c.in-Some-first_shared.field-0 c.in-Some-first_shared.ensures.1),
  (λ h. refl),
)
