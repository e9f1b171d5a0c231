use Rattle.std.proofs.Common.{◌≡◌, sym, ◌∙◌, arith, subst, true, false, not, ◌==◌}
use Rattle.std.specs.Ordering.{ordering_index}
use Rattle.row_order.proofs.Ties.{decides, ties_on}
use Rattle.table_blocks.proofs.Spanning.{next_pair}
use Rattle.table_blocks.proofs.order.compare_key.Goals as goal

pub returns-then-ne : goal.returns-then-ne
returns-then-ne c =
    let size = c.len-at-end.ensures.value in
    let here = c.loop-at-test.true in
    let step = next_pair c.args.key.now c.args.row.now c.args.probe.now c.loop-at.at c.at_or.result.now c.get.result.now c.requires (omega (arith, size, here)) c.at_or.ensures c.get.ensures in
    c.compare-ordering.ensures ∙ sym (c.loop-at.invariant ∙ (step ∙ decides _ _ (subst (λ o. true ≡ not (ordering_index o == 1)) c.compare-ordering.ensures c.if-ne.ensures)))

pub loop-at-preserved : goal.loop-at-preserved
loop-at-preserved c =
    let size = c.len-at-end.ensures.value in
    let here = c.loop-at-test.true in
    let step = next_pair c.args.key.now c.args.row.now c.args.probe.now c.loop-at.at c.at_or.result.now c.get.result.now c.requires (omega (arith, size, here)) c.at_or.ensures c.get.ensures in
    c.loop-at.invariant ∙ (step ∙ ties_on _ _ (subst (λ o. false ≡ not (ordering_index o == 1)) c.compare-ordering.ensures c.if-ne.ensures))
