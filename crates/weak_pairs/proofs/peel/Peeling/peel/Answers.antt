use Rattle.std.proofs.Common.{arith}
use Rattle.weak_pairs.proofs.peel.Peeling.peel.Goals as goal

pub returns-clause-found : goal.returns-clause-found
returns-clause-found c = λ u l. c.loop-v.invariant.before u (omega (arith, c.loop-v-test.false))
