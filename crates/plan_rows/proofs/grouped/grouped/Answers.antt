use Rattle.std.proofs.Common.{◌∙◌, ◌∷◌, ◌++◌, [], ap, subst, get_or, take, drop, ◌-◌, length}
use Rattle.cqa_model.proofs.Classic.{mem-head, mem-tail}
use Rattle.plan_rows.specs.Left.{AreQueryAtoms}
use Rattle.plan_rows.specs.Grouping.{GoesOnAlike}
use Rattle.plan_rows.proofs.PlanParts.{plan-split}
use Rattle.plan_rows.proofs.Grouping.{regrouped}
use Rattle.plan_rows.proofs.grouped.grouped.Goals as goal

pub add_groups-requires-clause-first : goal.add_groups-requires-clause-first
add_groups-requires-clause-first c =
    let order = c.args.order.now in
    subst (AreQueryAtoms c.args.setting.now.bound.now.query.now) (plan-split order c.in-len1-up.len_at_least) c.requires (get_or order 0 0) (mem-head (get_or order 0 0) (take (length order - 1) (drop 1 order)))

pub add_groups-requires-clause-atoms : goal.add_groups-requires-clause-atoms
add_groups-requires-clause-atoms c = λ F m.
    let order = c.args.order.now in
    subst (AreQueryAtoms c.args.setting.now.bound.now.query.now) (plan-split order c.in-len1-up.len_at_least) c.requires F (mem-tail F (get_or order 0 0) (take (length order - 1) (drop 1 order)) m)

pub returns-in_ok-add_groups-in-len1-up : goal.returns-in_ok-add_groups-in-len1-up
returns-in_ok-add_groups-in-len1-up c =
    let q = c.args.setting.now.bound.now.query.now in
    let order = c.args.order.now in
    let rest = take (length order - 1) (drop 1 order) in
    regrouped q order c.add_groups.new.order.items (get_or order 0 0) rest (plan-split order c.in-len1-up.len_at_least)
    (subst (λ front. GoesOnAlike q rest front c.add_groups.new.order.items) (c.in_ok-push-in-len1-up.ensures.items ∙ ap (λ z. z ++ get_or order 0 0 ∷ []) c.new-other.ensures.items) c.in_ok-add_groups-in-len1-up.ensures)
