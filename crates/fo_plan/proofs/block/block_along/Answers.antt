use Rattle.std.proofs.Common.{subst, sym}
use Rattle.plan_rows.specs.Left.{AreSharedInParts}
use Rattle.fo_plan.proofs.block.block_along.Goals as goal

pub invariant_of-course : goal.invariant_of-course
invariant_of-course c = record {
  atoms = c.requires.order;
  shares = ∣ subst (AreSharedInParts c.args.setting.bound.now.query.now c.args.order.now) (sym c.as_slice.ensures.value) c.shared_or_none-shared.ensures ∣₁;
  linked = ∣ c.requires.ways ∣₁;
}
