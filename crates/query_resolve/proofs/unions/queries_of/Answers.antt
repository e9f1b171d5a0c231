use Rattle.std.proofs.Common.{refl}
use Rattle.query_resolve.proofs.Members.{start, more, stopped, finished}
use Rattle.query_resolve.proofs.unions.queries_of.Goals as goal

pub loop-select-init : goal.loop-select-init
loop-select-init c = start refl c.in_ok-resolved.ensures.items

pub loop-select-preserved : goal.loop-select-preserved
loop-select-preserved c = more c.loop-select.invariant c.loop-select-test.true c.select-item.is c.in_ok-resolve.ensures c.in_ok-push.ensures.items

pub returns-in_err-resolve : goal.returns-in_err-resolve
returns-in_err-resolve c = stopped c.loop-select.invariant c.loop-select-test.true c.select-item.is c.in_err-resolve.ensures c.from_residual-in_err-resolve.ensures.1

pub returns : goal.returns
returns c = finished c.loop-select.invariant c.loop-select-test.false c.from_vec.ensures
