use Rattle.std.proofs.Common.{refl}
use Rattle.std.specs.List.{each_same}
use Rattle.query_resolve.proofs.Members.{start, more, stopped, finished}
use Rattle.query_resolve.proofs.schema.distinct_columns.Goals as goal

pub loop-at-init : goal.loop-at-init
loop-at-init c = start refl c.in_ok-copies.ensures.items

pub loop-at-preserved : goal.loop-at-preserved
loop-at-preserved c = more c.loop-at.invariant c.loop-at-test.true c.index-columns-at.is c.in_ok-fresh_column.ensures c.in_ok-push.ensures.items

pub returns-in_err-fresh_column : goal.returns-in_err-fresh_column
returns-in_err-fresh_column c = stopped c.loop-at.invariant c.loop-at-test.true c.index-columns-at.is c.in_err-fresh_column.ensures c.from_residual-in_err-fresh_column.ensures.1

pub returns : goal.returns
returns c = let all = finished c.loop-at.invariant c.loop-at-test.false c.from_vec.ensures in record { refused = tt; valid = all.valid; is = each_same c.args.columns.now c.from_vec.result all.is }
