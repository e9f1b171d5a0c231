use Rattle.std.proofs.Common.{arith}
use Rattle.block_lists.proofs.Rising.{rise_all}
use Rattle.block_lists.proofs.numbers.rise.Goals as goal

pub returns : goal.returns
returns c = λ _. rise_all c.args.numbers.now c.loop-at.at c.loop-at.invariant (omega (arith, c.loop-at-test.false))
