use Rattle.search_trail.proofs.Marking.{cleared_next, cleared_all}
use Rattle.search_trail.proofs.seen.clear_marks.Goals as goal

pub loop-var-preserved : goal.loop-var-preserved
loop-var-preserved c =
    cleared_next c.loop-var.seen.items c.clear_mark.new.seen.items c.args.met.now c.loop-var.var-index 0 c.loop-var-test.true c.clear_mark.ensures c.loop-var.invariant

pub returns : goal.returns
returns c = cleared_all c.loop-var.seen.items c.args.met.now c.loop-var.var-index c.loop-var-test.false c.loop-var.invariant
