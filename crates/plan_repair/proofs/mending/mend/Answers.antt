use Rattle.std.proofs.Common.{◌∙◌, sym, subst}
use Rattle.cqa_model.specs.Plan.{IsPlanOf}
use Rattle.plan_rows.specs.Left.{AreQueryAtoms, AreSharedInParts}
use Rattle.plan_rows.specs.Links.{AreWays}
use Rattle.plan_repair.specs.Apart.{AreEnough}
use Rattle.plan_repair.proofs.Apart.{plan-atoms}
use Rattle.plan_repair.proofs.mending.mend.Goals as goal

pub invariant_of-course : goal.invariant_of-course
invariant_of-course c = record {
  atoms = subst (AreQueryAtoms c.args.bound.now.query.now) (sym c.as_slice-order.ensures) (plan-atoms c.args.bound.now.query.now c.args.plan.now.order c.requires.plan);
  shares = ∣ subst (AreSharedInParts c.args.bound.now.query.now c.as_slice-order.result.now) (sym c.as_slice-2.ensures.value) c.shared_or_none-shared.ensures ∣₁;
  linked = ∣ subst (λ order. AreWays c.args.bound.now.query.now c.args.bound.now.db.now order c.args.ways.now) (sym c.as_slice-order.ensures) c.requires.ways ∣₁;
}

pub mended-found-requires-clause-plan : goal.mended-found-requires-clause-plan
mended-found-requires-clause-plan c = subst (IsPlanOf c.args.bound.now.query.now) (sym c.as_slice-order.ensures) c.requires.plan

pub invariant_of-way : goal.invariant_of-way
invariant_of-way c = record {
  long = c.requires.long;
  known = ∣ subst (AreEnough c.args.bound.now.query.now c.as_slice-order.result.now) (sym c.as_slice-3.ensures.value) c.in_ok-enough.ensures ∣₁;
}

pub mended-found-requires-clause-tables : goal.mended-found-requires-clause-tables
mended-found-requires-clause-tables c = c.as_slice-4.ensures ∙ c.in_ok-tables.ensures
