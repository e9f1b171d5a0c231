use Rattle.repair_back.proofs.Settling.{settled-picks, settled-choice, settled-more}
use Rattle.std.proofs.Common.{arith}
use Rattle.repair_back.proofs.choice.Choice.settle.Goals as goal

pub loop-at-preserved : goal.loop-at-preserved
loop-at-preserved c =
    let f = c.first_in-first.ensures in
    let s = c.set_only.ensures in
    settled-more c.args.key.now c.args.rows.now c.args.self.now c.loop-at.self c.loop-at.at c.loop-at.invariant c.set_only.new.self c.block_end-end.result c.first_in-first.result
    c.block_end-end.ensures.block c.block_end-end.ensures.begins f.after f.before f.best f.first s.size s.is

pub returns-clause-choice : goal.returns-clause-choice
returns-clause-choice c = settled-choice c.args.key.now c.args.rows.now c.args.self.now c.loop-at.self c.loop-at.at c.loop-at.invariant (omega (arith, c.loop-at-test.false))

pub returns-clause-picks : goal.returns-clause-picks
returns-clause-picks c = settled-picks c.args.key.now c.args.rows.now c.args.self.now c.loop-at.self c.loop-at.at c.loop-at.invariant (omega (arith, c.loop-at-test.false))
