use Rattle.std.proofs.Common.{subst, sym, inl, Contains, []}
use Rattle.cqa_model.specs.Database.{stored}
use Rattle.plan_rows.specs.Left.{AreQueryAtoms, AreSharedInParts}
use Rattle.plan_rows.specs.Links.{AreWays}
use Rattle.fo_plan.specs.Giving.{PlanGives, IsAdded}
use Rattle.fo_plan.proofs.Gathered.{gives-all}
use Rattle.plan_rows.proofs.Sharing.{underway-starts, none-right}
use Rattle.fo_plan.proofs.certain.answers.Goals as goal

pub invariant_of-course : goal.invariant_of-course
invariant_of-course c = record {
  atoms = subst (AreQueryAtoms c.args.bound.now.query.now) (sym c.as_slice-order.ensures) c.requires.plan;
  shares = ∣ subst (AreSharedInParts c.args.bound.now.query.now c.as_slice-order.result.now) (sym c.as_slice.ensures.value) c.in_ok-shared.ensures ∣₁;
  linked = ∣ subst (λ order. AreWays c.args.bound.now.query.now c.args.bound.now.db.now order c.args.ways.now) (sym c.as_slice-order.ensures) c.requires.ways ∣₁;
}

pub invariant_of-rest : goal.invariant_of-rest
invariant_of-rest c = record { underway = underway-starts _ }

pub add_given-added-requires-clause-all : goal.add_given-added-requires-clause-all
add_given-added-requires-clause-all c F l = inl (subst (λ p. Contains p F) (sym c.as_slice-order.ensures) (c.requires.all F l))

pub add_given-added-requires-clause-notes : goal.add_given-added-requires-clause-notes
add_given-added-requires-clause-notes c = record { memo = none-right _ c.over.result c.over.ensures; barren = tt }

pub returns-in-Ok-clause-exactly : goal.returns-in-Ok-clause-exactly
returns-in-Ok-clause-exactly c row =
    let q = c.args.bound.now.query.now in
    let tables = stored c.args.bound.now.db.now in
    let order = c.args.plan.now.order in
    let found = c.add_given-added.new.found in
    let all = gives-all q tables order found (subst (λ p. IsAdded (PlanGives q tables [] p) [] found) c.as_slice-order.ensures (subst (λ old. IsAdded (PlanGives q tables [] c.as_slice-order.result.now) old found) c.new-found.ensures c.in-Ok.ensures.added)) row in
    let same = c.listed.ensures.same row in
    ((λ m. all.0 (same.0 m)), (λ h. same.1 (all.1 h)))
