use Rattle.std.proofs.Common.{◌↔◌, IsTrue, subst, sym, arith}
use Rattle.cqa_model.specs.Plan.{HoldsOver}
use Rattle.cqa_model.proofs.Classic.{mem-nil}
use Rattle.plan_rows.specs.Left.{AreQueryAtoms}
use Rattle.plan_rows.proofs.Sharing.{underway-starts, none-right}
use Rattle.fo_plan.proofs.holding.holds.Goals as goal

pub invariant_of-course : goal.invariant_of-course
invariant_of-course c = record {
  atoms = subst (AreQueryAtoms c.args.bound.now.query.now) (sym c.as_slice-order.ensures) c.requires;
  shares = ∣ (λ front rest e l. absurd (omega (arith, l))) ∣₁;
  linked = ∣ record { links = λ F l m. absurd (mem-nil l m); behind = λ front rest F e G m. absurd (mem-nil G m) } ∣₁;
}

pub invariant_of-rest : goal.invariant_of-rest
invariant_of-rest c = record { underway = underway-starts _ }

pub holds_with-held-requires : goal.holds_with-held-requires
holds_with-held-requires c = none-right _ c.over-memo.result c.over-memo.ensures

pub returns : goal.returns
returns c =
    subst (λ plan. IsTrue c.holds_with-held.result ↔ HoldsOver c.args.bound.now.db.now c.args.bound.now.query.now c.args.row.now plan) c.as_slice-order.ensures c.holds_with-held.ensures.holds
