use Rattle.std.proofs.Common.{[], ◌∷◌, true≢false}
use Rattle.cqa_model.specs.Variables.{whole}
use Rattle.cqa_model.proofs.Databases.{elimination_is_exact}
use Rattle.cqa_model.proofs.PlanAtoms.{plan-distinct}
use Rattle.fo_rewrite.proofs.OneAtom.{one-plan, one-order, one-acyclic}
use Rattle.fo_rewrite.proofs.planning.only_atom.Goals as goal

pub invariant_of-result : goal.invariant_of-result
invariant_of-result c = record {
  apart = rw (c.in_ok-push.ensures.ok, c.new-order.ensures) (plan-distinct c.args.query.now (0 ∷ []) (whole c.args.query.now) (one-order c.args.query.now c.requires));
}

pub returns-clause-plan : goal.returns-clause-plan
returns-clause-plan c = rw (c.in_ok-push.ensures.ok, c.new-order.ensures) (one-plan c.args.query.now c.requires)

pub returns-clause-order : goal.returns-clause-order
returns-clause-order c = rw (c.in_ok-push.ensures.ok, c.new-order.ensures) (one-order c.args.query.now c.requires)

pub returns-clause-cycle : goal.returns-clause-cycle
returns-clause-cycle c = ((λ e. absurd (true≢false e)), (λ h. absurd (one-acyclic c.args.query.now c.requires h)))

pub returns-clause-exact : goal.returns-clause-exact
returns-clause-exact c = λ db row fits long.
    rw (c.in_ok-push.ensures.ok, c.new-order.ensures) (elimination_is_exact db c.args.query.now row (0 ∷ []) fits long (one-order c.args.query.now c.requires))
