use Rattle.std.proofs.Common.{slice_index}
use Rattle.pair_refutation.specs.Refuting.{AreBlocksOf}
use Rattle.pair_refutation.proofs.refuting.blocks_of.Given as goal

abbrev pub invariant-loop-v : goal.invariant-loop-v
invariant-loop-v l = AreBlocksOf l.start (slice_index l.start l.v) l.block_of.items

abbrev pub invariant-loop-i : goal.invariant-loop-i
invariant-loop-i l = AreBlocksOf l.start l.i l.block_of.items
