use Rattle.std.proofs.Common.{◌-◌, ◌≤◌, sym, ◌∙◌, arith, true≢false}
use Rattle.row_blocks.proofs.BlockEnds.{shares-behind}
use Rattle.row_blocks.proofs.blocks.block_start.Goals as goal

pub start_within-requires-clause-outside : goal.start_within-requires-clause-outside
start_within-requires-clause-outside c = λ i l s.
    let start = c.loop-start.start in
    let step = c.loop-start.step in
    let v = c.loop-start.invariant in
    let below = v.below in
    let some = v.step in
    let low = c.saturating_sub.ensures in
    let within : step ≤ start = omega (arith, l, low, some) in
    let near = shares-behind c.args.key.now c.args.rows.now c.requires.order c.args.at c.requires.there i (start - step) (omega (arith, l, low, some)) (omega (arith, below)) s in
    true≢false (sym (c.reaches_back.ensures.1 (within, near)) ∙ c.loop-start-test.false)
