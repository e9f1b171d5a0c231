use Rattle.std.proofs.Common.{◌+◌, ◌≤◌, sym, ◌∙◌, arith, true≢false}
use Rattle.row_blocks.proofs.BlockEnds.{shares-before}
use Rattle.row_blocks.proofs.blocks.block_end.Goals as goal

pub end_within-requires-clause-inside : goal.end_within-requires-clause-inside
end_within-requires-clause-inside c = λ i l u.
    let v = c.loop-last.invariant in
    shares-before c.args.key.now c.args.rows.now c.requires.order c.args.at c.loop-last.last i l (omega (arith, u)) v.within v.alike

pub end_within-requires-clause-outside : goal.end_within-requires-clause-outside
end_within-requires-clause-outside c = λ i l u s.
    let v = c.loop-last.invariant in
    let above = v.above in
    let len = c.len.ensures in
    let least = c.min.ensures in
    let next = c.loop-last.last + c.loop-last.step in
    let far : next ≤ i = grind (arith, l, u, len, least) in
    let near = shares-before c.args.key.now c.args.rows.now c.requires.order c.args.at i next (omega (arith, above)) far u s in
    true≢false (sym (c.reaches_on.ensures.more.1 (omega (arith, far, u), near)) ∙ c.loop-last-test.false)
