use Rattle.query_class.proofs.WalkSteps.{walked-start, walked-more, walked-end}
use Rattle.query_class.proofs.walking.reach.Goals as goal

pub walk-init : goal.walk-init
walk-init c = walked-start c.args.graph.now c.args.from c.attacked_by-set.result c.full-waiting.result c.attacked_by-set.ensures c.full-waiting.ensures

pub walk-preserved : goal.walk-preserved
walk-preserved c = let h = c.in-Some.ensures in
    walked-more c.args.graph.now c.args.from c.walk.set c.walk.waiting c.in-Some.atom c.attacked_by-more.result c.union-set.result c.remove.new.self c.walk.invariant h.1 c.attacked_by-more.ensures c.union-set.ensures c.remove.ensures.is

pub returns : goal.returns
returns c = walked-end c.args.graph.now c.args.from c.walk.set c.walk.waiting c.walk.invariant c.in_default.ensures
