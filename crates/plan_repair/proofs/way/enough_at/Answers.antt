use Rattle.std.proofs.Common.{arith}
use Rattle.plan_repair.proofs.Apart.{apart-more}
use Rattle.plan_repair.proofs.way.enough_at.Goals as goal

pub loop-enough-preserved : goal.loop-enough-preserved
loop-enough-preserved c =
    let within = c.loop-enough.invariant.within in
    record {
      within = omega (arith, within);
      apart = apart-more c.args.bound.now.query.now c.args.order.now c.split_at.result.1.now c.args.place c.loop-enough.enough c.split_at.ensures.back (omega (arith, c.loop-enough-test.true))
          c.split_at-in-loop-enough.result.0.now c.split_at-in-loop-enough.ensures.front (c.brings.ensures c.if-brings.false) c.loop-enough.invariant.apart;
    }

pub returns : goal.returns
returns c = λ k low high. c.loop-enough.invariant.apart k (omega (arith, c.loop-enough-test.false)) high
