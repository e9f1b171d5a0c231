use Rattle.std.proofs.Common.{refl}
use Rattle.query_resolve.proofs.Members.{start, more, stopped, finished}
use Rattle.query_resolve.proofs.column.columns_of.Goals as goal

pub loop-column-init : goal.loop-column-init
loop-column-init c = start refl c.in_ok-resolved.ensures.items

pub loop-column-preserved : goal.loop-column-preserved
loop-column-preserved c = more c.loop-column.invariant c.loop-column-test.true c.column-item.is c.in_ok-column_of.ensures c.in_ok-push.ensures.items

pub returns-in_err-column_of : goal.returns-in_err-column_of
returns-in_err-column_of c = stopped c.loop-column.invariant c.loop-column-test.true c.column-item.is c.in_err-column_of.ensures c.from_residual-in_err-column_of.ensures.1

pub returns : goal.returns
returns c = finished c.loop-column.invariant c.loop-column-test.false c.from_vec.ensures
