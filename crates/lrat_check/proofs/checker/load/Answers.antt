use Rattle.std.proofs.Common.{◌+◌, arith}
use Rattle.lrat_check.proofs.Loaded.{load_more}
use Rattle.lrat_check.proofs.checker.load.Goals as goal

pub loop-index-preserved : goal.loop-index-preserved
loop-index-preserved c =
    load_more c.args.clauses.now c.loop-index.index (c.loop-index.index + 1) c.index-clauses-index.result c.as_slice.result.now _ _ c.loop-index-test.true c.index-clauses-index.is c.as_slice.ensures (omega arith)
    c.loop-index.invariant c.in_ok-add.ensures
