use Rattle.std.proofs.Common.{◌≤◌}
use Rattle.fo_rewrite.proofs.known.Known.found_bits.Given as goal

abbrev pub invariant-loop-col : goal.invariant-loop-col
invariant-loop-col l = l.bits ≤ 32
