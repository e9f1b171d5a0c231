use Rattle.std.proofs.Common.{subst, sym}
use Rattle.cqa_model.specs.Plan.{HoldsOver}
use Rattle.plan_rows.specs.Left.{AreQueryAtoms, AreSharedInParts}
use Rattle.plan_rows.specs.Links.{AreWays}
use Rattle.rewrite_text.proofs.printed.by_ways.Goals as goal

pub invariant_of-course : goal.invariant_of-course
invariant_of-course c = record {
  atoms = subst (AreQueryAtoms c.args.bound.now.query.now) (sym c.as_slice-order.ensures) c.requires.plan;
  shares = ∣ subst (AreSharedInParts c.args.bound.now.query.now c.as_slice-order.result.now) (sym c.as_slice.ensures.value) c.shared_or_none-shared.ensures ∣₁;
  linked = ∣ subst (λ order. AreWays c.args.bound.now.query.now c.args.bound.now.db.now order c.args.ways.now) (sym c.as_slice-order.ensures) c.requires.ways ∣₁;
}

pub written-requires : goal.written-requires
written-requires c = record { holds = subst (HoldsOver c.args.bound.now.db.now c.args.bound.now.query.now c.args.row.now) (sym c.as_slice-order.ensures) c.requires.holds }
