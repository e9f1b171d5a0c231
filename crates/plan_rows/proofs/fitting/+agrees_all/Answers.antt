use Rattle.std.proofs.Common.{ap, length, arith}
use Rattle.plan_rows.specs.Taking.{placed}
use Rattle.plan_rows.proofs.Suiting.{agrees-more, agrees-not}
use Rattle.plan_rows.proofs.fitting.+agrees_all.Goals as goal

pub agrees_all-requires : goal.agrees_all-requires
agrees_all-requires t c = omega (arith, ap (λ z. length (placed z)) c.in-Before.is, c.decreases)

pub returns-then-agrees : goal.returns-then-agrees
returns-then-agrees t c = agrees-more c.args.setting.now.bound.now.query.now c.args.atom c.args.x.now (placed c.args.taken.now) _ _ (ap placed c.in-Before.is) c.agrees_all.result c.agrees_all.ensures (c.agrees.ensures.0 c.if-agrees.true)

pub returns-else-agrees : goal.returns-else-agrees
returns-else-agrees t c = agrees-not c.args.setting.now.bound.now.query.now c.args.atom c.args.x.now (placed c.args.taken.now) _ _ (ap placed c.in-Before.is) c.agrees.result c.if-agrees.false c.agrees.ensures
