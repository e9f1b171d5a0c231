use Rattle.std.proofs.Common.{subst, sym, [], MatchOption}
use Rattle.cqa_model.specs.Plan.{HoldsOver}
use Rattle.fo_plan.specs.FirstBlock.{IsFirstBlock}
use Rattle.plan_rows.specs.Underway.{IsUnderway}
use Rattle.plan_rows.proofs.PlanParts.{plan-split}
use Rattle.plan_rows.proofs.Sharing.{first-atom, underway-starts, none-right}
use Rattle.fo_plan.proofs.block.found_block.Goals as goal

pub invariant_of-step : goal.invariant_of-step
invariant_of-step c =
    let course = c.args.course.now in
    let underway = subst (IsUnderway course []) (plan-split course.order.now c.in-len1-up.len_at_least) (underway-starts course) in
    record { underway = underway; there = first-atom course [] _ _ underway }

pub first_block-found-requires : goal.first_block-found-requires
first_block-found-requires c = none-right c.args.course.now c.over-memo.result c.over-memo.ensures

pub returns-in-len1-up : goal.returns-in-len1-up
returns-in-len1-up c =
    let course = c.args.course.now in
    let db = course.setting.bound.now.db.now in
    let q = course.setting.bound.now.query.now in
    let row = c.args.row.now in
    subst (λ plan. MatchOption c.first_block-found.result (HoldsOver db q row plan → ⊥) (λ block. HoldsOver db q row plan × IsFirstBlock db q row plan block)) (sym (plan-split course.order.now c.in-len1-up.len_at_least)) c.first_block-found.ensures.block
