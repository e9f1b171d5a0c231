use Rattle.std.proofs.Common.{◌+◌, ◌-◌, ◌/◌, sym, ◌∙◌, arith, true≢false}
use Rattle.row_blocks.proofs.BlockEnds.{shares-behind, start-is}
use Rattle.row_blocks.proofs.blocks.start_within.Goals as goal

pub loop-low-preserved : goal.loop-low-preserved
loop-low-preserved c =
    let v = c.loop-low.invariant in
    let high = v.within in
    let t = c.loop-low-test.true in
    let there = c.requires.there in
    let middle = c.loop-low.low + (c.loop-low.high - c.loop-low.low) / 2 in
    record {
      order = omega (arith, t);
      within = v.within;
      outside = λ i l s.
          let near = shares-behind c.args.key.now c.args.rows.now c.requires.order c.args.at there i middle (omega (arith, l)) (omega (arith, t, high)) s in
          true≢false (sym (c.goes_on.ensures.1 near) ∙ c.if-goes_on.false);
      inside = v.inside;
    }

pub returns-clause-block : goal.returns-clause-block
returns-clause-block c =
    let v = c.loop-low.invariant in
    let f = c.loop-low-test.false in
    start-is c.args.key.now c.args.rows.now c.requires.order c.args.at c.requires.there c.loop-low.high v.within v.inside (λ i l s. v.outside i (omega (arith, l, f)) s)
