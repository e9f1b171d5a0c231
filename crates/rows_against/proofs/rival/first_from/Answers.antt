use Rattle.std.proofs.Common.{◌+◌, ◌-◌, ◌/◌, sym, ◌∙◌, arith, true≢false}
use Rattle.rows_against.proofs.Parting.{below_before}
use Rattle.rows_against.proofs.rival.first_from.Goals as goal

pub loop-low-preserved-then-is_below : goal.loop-low-preserved-then-is_below
loop-low-preserved-then-is_below c =
    let v = c.loop-low.invariant in
    let after = v.after in
    let high = v.within in
    let t = c.loop-low-test.true in
    let middle = c.loop-low.low + (c.loop-low.high - c.loop-low.low) / 2 in
    record {
      after = omega (arith, after);
      order = omega (arith, t);
      within = v.within;
      before = λ k f l. below_before c.args.names.now c.args.from c.args.table c.requires c.args.place k middle f (omega (arith, l)) (omega (arith, t, high)) (c.is_below.ensures.0 c.if-is_below.true);
      behind = v.behind;
    }

pub loop-low-preserved : goal.loop-low-preserved
loop-low-preserved c =
    let v = c.loop-low.invariant in
    let after = v.after in
    let high = v.within in
    let t = c.loop-low-test.true in
    let middle = c.loop-low.low + (c.loop-low.high - c.loop-low.low) / 2 in
    record {
      after = v.after;
      order = omega (arith, t);
      within = omega (arith, t, high);
      before = v.before;
      behind = λ k l u below.
          let near = below_before c.args.names.now c.args.from c.args.table c.requires c.args.place middle k (omega (arith, after)) l u below in
          true≢false (sym (c.is_below.ensures.1 near) ∙ c.if-is_below.false);
    }
