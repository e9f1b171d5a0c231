use Rattle.std.proofs.Common.{length, subst, arith}
use Rattle.std.proofs.lemmas.Result.{on_ok_weaker}
use Rattle.plan_rows.specs.Over.{query_of, rows_before}
use Rattle.plan_rows.specs.Taking.{placed}
use Rattle.plan_rows.specs.Underway.{IsUnderway}
use Rattle.plan_rows.proofs.Suiting.{suits-from}
use Rattle.plan_rows.proofs.PlanParts.{plan-split}
use Rattle.plan_rows.proofs.Sharing.{first-atom, underway-more}
use Rattle.rewrite_text.proofs.Drafting.{over_more_so, refused_on}
use Rattle.rewrite_text.proofs.Growing.{get_there, under_starts, under_more, under_over, tree_added, block_over, tree_over}
use Rattle.rewrite_text.proofs.tree.+nodes.Goals as goal

pub add_nodes-invariant_of-step : goal.add_nodes-invariant_of-step
add_nodes-invariant_of-step t c =
    let rest = c.args.rest.now in
    let underway = subst (IsUnderway rest.course.now (placed rest.taken.now)) (plan-split rest.plan.now c.in-len1-up.len_at_least) rest.underway in
    record { underway = underway; there = first-atom rest.course.now (placed rest.taken.now) _ _ underway }

pub add_tree-returns-in_ok-add_block-in-Some-clause-made : goal.add_tree-returns-in_ok-add_block-in-Some-clause-made
add_tree-returns-in_ok-add_block-in-Some-clause-made t c =
    let step = c.args.step.now in
    let db = step.course.now.setting.bound.now.db.now in
    on_ok_weaker c.add_under.result (λ u. tree_added db (query_of step) c.args.row.now (rows_before step) step.atom step.rest.now c.in-Some.block c.args.draft.now c.add_block.new.draft c.add_under.new.draft c.in-Some.ensures.block.1 c.in_ok-add_block-in-Some.ensures.ok u) c.add_under.ensures.made

pub add_tree-returns-in_ok-add_block-in-Some-clause-over : goal.add_tree-returns-in_ok-add_block-in-Some-clause-over
add_tree-returns-in_ok-add_block-in-Some-clause-over t c =
    let step = c.args.step.now in
    let db = step.course.now.setting.bound.now.db.now in
    over_more_so (tree_over db (query_of step) c.args.row.now (rows_before step) step.atom step.rest.now c.in-Some.block c.args.draft.now c.add_block.new.draft c.in-Some.ensures.block.1 c.in_ok-add_block-in-Some.ensures.ok) c.add_under.result c.add_under.ensures.over

pub add_under-invariant_of-rest : goal.add_under-invariant_of-rest
add_under-invariant_of-rest t c =
    let step = c.args.step.now in
    let y = c.get-y.result.now in
    let holds = c.requires.hold y (get_there c.args.block.now c.loop-at.at y c.get-y.ensures) in
    record { underway = underway-more step.course.now (rows_before step) step.atom step.rest.now y step.underway (suits-from (query_of step) (rows_before step) step.atom y c.args.row.now holds.0) }

pub add_under-add_nodes-requires : goal.add_under-add_nodes-requires
add_under-add_nodes-requires t c =
    let y = c.get-y.result.now in
    (omega (arith, c.decreases), (c.loop-at.invariant.right, ((c.requires.hold y (get_there c.args.block.now c.loop-at.at y c.get-y.ensures)).1, c.loop-at.invariant.so.added.between)))

pub add_under-loop-at-init : goal.add_under-loop-at-init
add_under-loop-at-init t c =
    let step = c.args.step.now in
    record { so = under_starts step.course.now.setting.bound.now.db.now (query_of step) c.args.row.now (rows_before step) step.atom step.rest.now c.args.block.now c.args.draft.now c.requires.between; right = c.requires.memo }

pub add_under-loop-at-preserved : goal.add_under-loop-at-preserved
add_under-loop-at-preserved t c =
    let step = c.args.step.now in
    record {
      so = under_more step.course.now.setting.bound.now.db.now (query_of step) c.args.row.now (rows_before step) step.atom step.rest.now c.args.block.now c.loop-at.at c.get-y.result.now c.args.draft.now c.loop-at.draft c.add_nodes.new.draft c.get-y.ensures c.loop-at.invariant.so c.in_ok-add_nodes.ensures.made;
      right = c.in_ok-add_nodes.ensures.memo;
    }

pub add_tree-returns-in_err-add_block-in-Some-clause-over : goal.add_tree-returns-in_err-add_block-in-Some-clause-over
add_tree-returns-in_err-add_block-in-Some-clause-over t c =
    let step = c.args.step.now in
    refused_on (block_over step.course.now.setting.bound.now.db.now (query_of step) c.args.row.now (rows_before step) step.atom step.rest.now c.in-Some.block (length c.args.draft.now.out.items) c.in-Some.ensures.block.1)
    c.from_residual.result c.in_err-add_block-in-Some.field-0.0 c.from_residual.ensures.1 c.in_err-add_block-in-Some.ensures.over

pub add_under-returns-in_err-add_nodes-clause-over : goal.add_under-returns-in_err-add_nodes-clause-over
add_under-returns-in_err-add_nodes-clause-over t c =
    let step = c.args.step.now in
    refused_on (under_over step.course.now.setting.bound.now.db.now (query_of step) c.args.row.now (rows_before step) step.atom step.rest.now c.args.block.now c.loop-at.at c.get-y.result.now c.args.draft.now c.loop-at.draft c.get-y.ensures c.loop-at.invariant.so)
    c.from_residual.result c.in_err-add_nodes.field-0.0 c.from_residual.ensures.1 c.in_err-add_nodes.ensures.over
