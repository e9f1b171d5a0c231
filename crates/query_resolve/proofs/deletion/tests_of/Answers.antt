use Rattle.std.proofs.Common.{refl}
use Rattle.query_resolve.specs.Checks.{test_fault}
use Rattle.query_resolve.proofs.Members.{start, more, stopped, finished, numbered}
use Rattle.query_resolve.proofs.deletion.tests_of.Goals as goal

pub loop-at-init : goal.loop-at-init
loop-at-init c = start refl c.in_ok-resolved.ensures.items

pub loop-at-preserved : goal.loop-at-preserved
loop-at-preserved c = more c.loop-at.invariant c.loop-at-test.true c.index-tests-at.is (numbered (test_fault c.args.columns.now) c.args.tests.now c.loop-at.at c.index-tests-at.result c.loop-at-test.true c.in_ok-column_test.ensures) c.in_ok-push.ensures.items

pub returns-in_err-column_test : goal.returns-in_err-column_test
returns-in_err-column_test c = stopped c.loop-at.invariant c.loop-at-test.true c.index-tests-at.is (numbered (test_fault c.args.columns.now) c.args.tests.now c.loop-at.at c.index-tests-at.result c.loop-at-test.true c.in_err-column_test.ensures) c.from_residual-in_err-column_test.ensures.1

pub returns : goal.returns
returns c = finished c.loop-at.invariant c.loop-at-test.false c.from_vec.ensures
