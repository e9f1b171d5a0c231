use Rattle.std.proofs.Common.{rules, IsTrue, ◌↔◌, ◌∙◌, ◌∷◌, refl, subst, sym, arith}
use Rattle.std.proofs.lemmas.Bool.{false≢true}
use Rattle.cqa_model.specs.Database.{stored}
use Rattle.cqa_model.specs.Plan.{Fits, PlanHolds}
use Rattle.plan_rows.specs.Taking.{placed}
use Rattle.plan_rows.specs.Over.{query_of, rows_before}
use Rattle.plan_rows.specs.Underway.{IsUnderway, IsMemoKey}
use Rattle.plan_rows.proofs.Suiting.{suits-from}
use Rattle.plan_rows.proofs.PlanParts.{rest-shorter, plan-split}
use Rattle.plan_rows.proofs.Sharing.{first-atom, underway-more, still-right, keeps-right}
use Rattle.fo_plan.specs.Holding.{PlanHoldsWith}
use Rattle.fo_plan.proofs.Looks.{of-look}
use Rattle.fo_plan.proofs.Passing.{next-first, none-starts, none-on, none-ends}
use Rattle.fo_plan.proofs.Reached.{held-reached}
use Rattle.fo_plan.proofs.First.{first-some}
use Rattle.fo_plan.proofs.Gathered.{held-starts, held-not, held-on, held-ends}
use Rattle.fo_plan.proofs.holding.+holds.Goals as goal

pub holds_with-invariant_of-step : goal.holds_with-invariant_of-step
holds_with-invariant_of-step t c =
    let rest = c.args.rest.now in
    let underway = subst (IsUnderway rest.course.now (placed rest.taken.now)) (plan-split rest.plan.now c.in-len1-up.len_at_least) rest.underway in
    record { underway = underway; there = first-atom rest.course.now (placed rest.taken.now) _ _ underway }

pub holds_with-invariant_of-step-in-None : goal.holds_with-invariant_of-step-in-None
holds_with-invariant_of-step-in-None t c =
    let rest = c.args.rest.now in
    let underway = subst (IsUnderway rest.course.now (placed rest.taken.now)) (plan-split rest.plan.now c.in-len1-up.len_at_least) rest.underway in
    record { underway = underway; there = first-atom rest.course.now (placed rest.taken.now) _ _ underway }

pub holds_with-remembered-requires : goal.holds_with-remembered-requires
holds_with-remembered-requires t c =
    let rest = c.args.rest.now in
    let plan = rest.plan.now in
    let l = c.in-len1-up.len_at_least in (
      omega (arith, rest-shorter plan l, c.decreases),
      (c.requires, subst (λ p. IsMemoKey rest.course.now (placed rest.taken.now) p c.args.row.now c.in-Some.key) (plan-split plan l) c.in-Some.ensures),
    )

pub holds_with-returns-in-Some-clause-holds : goal.holds_with-returns-in-Some-clause-holds
holds_with-returns-in-Some-clause-holds t c =
    let rest = c.args.rest.now in
    subst (λ plan. IsTrue c.remembered.result ↔ PlanHolds rest.course.now.setting.bound.now.query.now (stored rest.course.now.setting.bound.now.db.now) c.args.row.now (placed rest.taken.now) plan)
    (sym (plan-split rest.plan.now c.in-len1-up.len_at_least)) c.remembered.ensures.holds

pub holds_with-some_block-requires : goal.holds_with-some_block-requires
holds_with-some_block-requires t c =
    let plan = c.args.rest.now.plan.now in
    (omega (arith, rest-shorter plan c.in-len1-up.len_at_least, c.decreases), c.requires)

pub holds_with-returns-in-None-clause-holds : goal.holds_with-returns-in-None-clause-holds
holds_with-returns-in-None-clause-holds t c =
    let rest = c.args.rest.now in
    subst (λ plan. IsTrue c.some_block.result ↔ PlanHolds rest.course.now.setting.bound.now.query.now (stored rest.course.now.setting.bound.now.db.now) c.args.row.now (placed rest.taken.now) plan)
    (sym (plan-split rest.plan.now c.in-len1-up.len_at_least)) c.some_block.ensures.holds

pub remembered-returns-in-Some-clause-holds : goal.remembered-returns-in-Some-clause-holds
remembered-returns-in-Some-clause-holds t c =
    let step = c.args.step.now in
    c.requires.memo c.args.key c.in-Some.held (sym c.told.ensures ∙ c.in-Some.is) (rows_before step) (step.atom ∷ step.rest.now) c.args.row.now step.underway c.requires.key

pub remembered-returns-clause-memo : goal.remembered-returns-clause-memo
remembered-returns-clause-memo t c =
    let step = c.args.step.now in
    keeps-right step.course.now c.some_block-held.new.memo c.keep.new.self (rows_before step) (step.atom ∷ step.rest.now) c.args.row.now c.args.key c.some_block-held.result
    c.some_block-held.ensures.memo step.underway c.requires.key c.some_block-held.ensures.holds c.keep.ensures

pub all_hold-loop-y-init : goal.all_hold-loop-y-init
all_hold-loop-y-init t c = record {
  held = held-starts (PlanHoldsWith c.args.step.now c.args.row.now) c.args.block.now c.into_iter-y-iterator.result (search rules);
  right = c.requires;
}

pub all_hold-returns-then-not-row_holds-clause-holds : goal.all_hold-returns-then-not-row_holds-clause-holds
all_hold-returns-then-not-row_holds-clause-holds t c = (
  (λ e. absurd (false≢true e)),
  (λ all. absurd (held-not (PlanHoldsWith c.args.step.now c.args.row.now) c.args.block.now c.loop-y.y-iterator c.next.new.self c.in-Some.y.now c.loop-y.invariant.held c.in-Some.ensures.steps (λ p. false≢true (sym c.if-not-row_holds.true ∙ c.row_holds.ensures.holds.1 p)) all)),
)

pub all_hold-loop-y-preserved : goal.all_hold-loop-y-preserved
all_hold-loop-y-preserved t c = record {
  held = held-on (PlanHoldsWith c.args.step.now c.args.row.now) c.args.block.now c.loop-y.y-iterator c.next.new.self c.in-Some.y.now c.loop-y.invariant.held c.in-Some.ensures.steps (c.row_holds.ensures.holds.0 c.if-not-row_holds.false);
  right = c.row_holds.ensures.memo;
}

pub all_hold-returns-clause-holds : goal.all_hold-returns-clause-holds
all_hold-returns-clause-holds t c = (
  (λ e. held-ends (PlanHoldsWith c.args.step.now c.args.row.now) c.args.block.now c.loop-y.y-iterator c.loop-y.invariant.held c.in-None.ensures.steps.0),
  (λ all. refl),
)

pub row_holds-returns-then-not-fits-clause-memo : goal.row_holds-returns-then-not-fits-clause-memo
row_holds-returns-then-not-fits-clause-memo t c = still-right c.args.step.now.course.now c.args.memo.now c.turn.new.self c.turn.ensures c.requires

pub row_holds-returns-then-not-fits-clause-holds : goal.row_holds-returns-then-not-fits-clause-holds
row_holds-returns-then-not-fits-clause-holds t c =
    let says = of-look c.args.step.now c.look.result c.look.ensures.setting c.look.ensures.taken c.look.ensures.atom (λ s taken F. IsTrue c.fits.result ↔ Fits s.bound.now.query.now c.args.row.now taken F c.args.y.now) c.fits.ensures in
    ((λ e. absurd (false≢true e)), (λ h. absurd (false≢true (sym c.if-not-fits.true ∙ says.1 h.0))))

pub row_holds-returns-clause-holds : goal.row_holds-returns-clause-holds
row_holds-returns-clause-holds t c =
    let says = of-look c.args.step.now c.look.result c.look.ensures.setting c.look.ensures.taken c.look.ensures.atom (λ s taken F. IsTrue c.fits.result ↔ Fits s.bound.now.query.now c.args.row.now taken F c.args.y.now) c.fits.ensures in
    ((λ e. (says.0 c.if-not-fits.false, c.holds_with.ensures.holds.0 e)), (λ h. c.holds_with.ensures.holds.1 h.1))

pub row_holds-invariant_of-rest : goal.row_holds-invariant_of-rest
row_holds-invariant_of-rest t c =
    let step = c.args.step.now in
    let says = of-look step c.look.result c.look.ensures.setting c.look.ensures.taken c.look.ensures.atom (λ s taken F. IsTrue c.fits.result ↔ Fits s.bound.now.query.now c.args.row.now taken F c.args.y.now) c.fits.ensures in
    record { underway = underway-more step.course.now (rows_before step) step.atom step.rest.now c.args.y.now step.underway (suits-from (query_of step) (rows_before step) step.atom c.args.y.now c.args.row.now (says.0 c.if-not-fits.false)) }

pub row_holds-holds_with-requires : goal.row_holds-holds_with-requires
row_holds-holds_with-requires t c = (omega (arith, c.decreases), still-right c.args.step.now.course.now c.args.memo.now c.turn.new.self c.turn.ensures c.requires)

pub some_block-first_of-requires : goal.some_block-first_of-requires
some_block-first_of-requires t c = (omega (arith, c.decreases), ((held-reached c.args.step.now c.new-blocks.result c.args.row.now c.new-blocks.ensures).0, c.requires))

pub some_block-returns-clause-holds : goal.some_block-returns-clause-holds
some_block-returns-clause-holds t c =
    let blocks = c.new-blocks.result in
    let there = (held-reached c.args.step.now blocks c.args.row.now c.new-blocks.ensures).1 in
    let some = first-some blocks.key.now blocks.rows (PlanHoldsWith c.args.step.now c.args.row.now) c.first_of.result c.first_of.ensures.first in (
      (λ e. there.0 (some.0 (sym c.is_some-held.ensures ∙ e))),
      (λ h. c.is_some-held.ensures ∙ some.1 (there.1 h)),
    )

pub first_of-loop-block-init : goal.first_of-loop-block-init
first_of-loop-block-init t c = record {
  none = none-starts c.args.blocks.now (PlanHoldsWith c.args.step.now c.args.row.now) c.requires.sought c.start-spot.result.place c.start-spot.ensures.passed;
  spot = c.start-spot.ensures.spot;
  right = c.requires.memo;
}

pub first_of-returns-then-all_hold-clause-first : goal.first_of-returns-then-all_hold-clause-first
first_of-returns-then-all_hold-clause-first t c =
    next-first c.args.blocks.now (PlanHoldsWith c.args.step.now c.args.row.now) c.requires.sought c.loop-block.spot.place c.next.new.spot.place c.in-Some.block c.loop-block.invariant.none c.in-Some.ensures.next (c.all_hold.ensures.holds.0 c.if-all_hold.true)

pub first_of-loop-block-preserved : goal.first_of-loop-block-preserved
first_of-loop-block-preserved t c = record {
  none = none-on c.args.blocks.now (PlanHoldsWith c.args.step.now c.args.row.now) c.requires.sought c.loop-block.spot.place c.next.new.spot.place c.in-Some.block c.loop-block.invariant.none c.in-Some.ensures.next
      (λ h. false≢true (sym c.if-all_hold.false ∙ c.all_hold.ensures.holds.1 h));
  spot = c.next.ensures.spot;
  right = c.all_hold.ensures.memo;
}

pub first_of-returns-clause-first : goal.first_of-returns-clause-first
first_of-returns-clause-first t c =
    none-ends c.args.blocks.now (PlanHoldsWith c.args.step.now c.args.row.now) c.requires.sought c.loop-block.spot.place c.loop-block.invariant.none c.in_default.ensures.next
