use Rattle.std.proofs.Common.{subst, sym, Contains, MatchOption}
use Rattle.cqa_model.specs.Plan.{HoldsOver}
use Rattle.plan_rows.specs.Left.{AreQueryAtoms}
use Rattle.plan_rows.specs.Links.{AreWays}
use Rattle.plan_rows.specs.Grouping.{IsRegrouped}
use Rattle.fo_plan.specs.FirstBlock.{IsFirstBlock}
use Rattle.fo_plan.proofs.Regrouped.{regrouped-first, regrouped-atoms}
use Rattle.fo_plan.proofs.block.block_of.Goals as goal

pub grouped_along-requires-clause-order : goal.grouped_along-requires-clause-order
grouped_along-requires-clause-order c = subst (AreQueryAtoms c.args.bound.now.query.now) (sym c.as_slice-order.ensures) c.requires.plan

pub grouped_along-requires-clause-ways : goal.grouped_along-requires-clause-ways
grouped_along-requires-clause-ways c = subst (λ order. AreWays c.args.bound.now.query.now c.args.bound.now.db.now order c.args.ways.now) (sym c.as_slice-order.ensures) c.requires.ways

pub block_along-requires-clause-order : goal.block_along-requires-clause-order
block_along-requires-clause-order c = λ F m.
    let q = c.args.bound.now.query.now in
    let same = regrouped-atoms q c.as_slice-order.result.now c.in-Some.grouped.items c.in-Some.ensures.same F in
    c.requires.plan F (subst (λ p. Contains p F) c.as_slice-order.ensures (same.1 (subst (λ p. Contains p F) c.as_slice.ensures.value m)))

pub block_along-requires-clause-all : goal.block_along-requires-clause-all
block_along-requires-clause-all c = λ F l.
    let q = c.args.bound.now.query.now in
    let same = regrouped-atoms q c.as_slice-order.result.now c.in-Some.grouped.items c.in-Some.ensures.same F in
    subst (λ p. Contains p F) (sym c.as_slice.ensures.value) (same.0 (subst (λ p. Contains p F) (sym c.as_slice-order.ensures) (c.requires.all F l)))

pub block_along-requires-in-None-clause-order : goal.block_along-requires-in-None-clause-order
block_along-requires-in-None-clause-order c = subst (AreQueryAtoms c.args.bound.now.query.now) (sym c.as_slice-order.ensures) c.requires.plan

pub block_along-requires-in-None-clause-all : goal.block_along-requires-in-None-clause-all
block_along-requires-in-None-clause-all c = λ F l. subst (λ p. Contains p F) (sym c.as_slice-order.ensures) (c.requires.all F l)

pub returns-in-Some : goal.returns-in-Some
returns-in-Some c =
    let db = c.args.bound.now.db.now in
    let q = c.args.bound.now.query.now in
    let row = c.args.row.now in
    let found = c.block_along.result in
    regrouped-first db q row c.args.plan.now.order c.in-Some.grouped.items found (subst (λ p. IsRegrouped q p c.in-Some.grouped.items) c.as_slice-order.ensures c.in-Some.ensures.same)
    (subst (λ p. MatchOption found (HoldsOver db q row p → ⊥) (λ block. HoldsOver db q row p × IsFirstBlock db q row p block)) c.as_slice.ensures.value c.block_along.ensures)
