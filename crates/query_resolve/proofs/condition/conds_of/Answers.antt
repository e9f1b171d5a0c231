use Rattle.std.proofs.Common.{refl}
use Rattle.query_resolve.specs.Checks.{cond_fault}
use Rattle.query_resolve.proofs.Members.{start, more, stopped, finished, numbered}
use Rattle.query_resolve.proofs.condition.conds_of.Goals as goal

pub loop-at-init : goal.loop-at-init
loop-at-init c = start refl c.in_ok-resolved.ensures.items

pub loop-at-preserved : goal.loop-at-preserved
loop-at-preserved c = more c.loop-at.invariant c.loop-at-test.true c.index-conds-at.is (numbered (cond_fault c.args.db.now c.args.names.now) c.args.conds.now c.loop-at.at c.index-conds-at.result c.loop-at-test.true c.in_ok-cond_of.ensures) c.in_ok-push.ensures.items

pub returns-in_err-cond_of : goal.returns-in_err-cond_of
returns-in_err-cond_of c = stopped c.loop-at.invariant c.loop-at-test.true c.index-conds-at.is (numbered (cond_fault c.args.db.now c.args.names.now) c.args.conds.now c.loop-at.at c.index-conds-at.result c.loop-at-test.true c.in_err-cond_of.ensures) c.from_residual-in_err-cond_of.ensures.1

pub returns : goal.returns
returns c = finished c.loop-at.invariant c.loop-at-test.false c.from_vec.ensures
