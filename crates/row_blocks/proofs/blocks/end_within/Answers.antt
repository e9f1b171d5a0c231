use Rattle.std.proofs.Common.{◌+◌, ◌-◌, ◌/◌, sym, ◌∙◌, arith, true≢false}
use Rattle.row_blocks.proofs.BlockEnds.{shares-before, end-is}
use Rattle.row_blocks.proofs.blocks.end_within.Goals as goal

pub loop-low-preserved-then-goes_on : goal.loop-low-preserved-then-goes_on
loop-low-preserved-then-goes_on c =
    let v = c.loop-low.invariant in
    let high = v.within in
    let above = v.above in
    let t = c.loop-low-test.true in
    let middle = c.loop-low.low + (c.loop-low.high - c.loop-low.low) / 2 in
    record {
      above = omega (arith, above);
      order = omega (arith, t);
      within = v.within;
      inside = λ i l u. shares-before c.args.key.now c.args.rows.now c.requires.order c.args.at middle i l (omega (arith, u)) (omega (arith, t, high)) (c.goes_on.ensures.0 c.if-goes_on.true);
      outside = v.outside;
    }

pub loop-low-preserved : goal.loop-low-preserved
loop-low-preserved c =
    let v = c.loop-low.invariant in
    let high = v.within in
    let above = v.above in
    let t = c.loop-low-test.true in
    let middle = c.loop-low.low + (c.loop-low.high - c.loop-low.low) / 2 in
    record {
      above = v.above;
      order = omega (arith, t);
      within = omega (arith, t, high);
      inside = v.inside;
      outside = λ i l u s.
          let near = shares-before c.args.key.now c.args.rows.now c.requires.order c.args.at i middle (omega (arith, above)) l u s in
          true≢false (sym (c.goes_on.ensures.1 near) ∙ c.if-goes_on.false);
    }

pub returns-clause-block : goal.returns-clause-block
returns-clause-block c =
    let v = c.loop-low.invariant in
    let f = c.loop-low-test.false in
    end-is c.args.key.now c.args.rows.now c.requires.order c.args.at c.loop-low.low v.inside (λ i l u s. v.outside i (omega (arith, l, f)) u s)
