use Rattle.std.proofs.Common.{arith}
use Rattle.call_tests.proofs.tables.block.Goals as goal

pub returns-clause-none : goal.returns-clause-none
returns-clause-none g c e = let paid = c.block.ensures.cost 0 (omega (arith, e)) in omega (arith, paid)

pub returns-clause-one : goal.returns-clause-one
returns-clause-one g c e = let paid = c.block.ensures.cost 1 (omega (arith, e)) in omega (arith, paid)

pub returns-clause-many : goal.returns-clause-many
returns-clause-many g c e = let paid = c.block.ensures.cost 10 (omega (arith, e)) in omega (arith, paid)
