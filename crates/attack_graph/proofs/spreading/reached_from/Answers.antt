use Rattle.attack_graph.proofs.SpreadSteps.{spread-start, spread-more, spread-end}
use Rattle.attack_graph.proofs.spreading.reached_from.Goals as goal

pub spread-init : goal.spread-init
spread-init c = spread-start c.args.named.now.query.now c.args.named.now.view c.args.from c.outside-set.result c.left-waiting.result c.outside-set.ensures c.left-waiting.ensures

pub spread-preserved : goal.spread-preserved
spread-preserved c = let h = c.in-Some.ensures in
    spread-more c.args.named.now.query.now c.args.named.now.view c.args.from c.spread.set c.spread.waiting c.in-Some.atom c.outside-more.result c.union-set.result c.remove.new.self
    c.spread.invariant h.0 h.1 c.outside-more.ensures c.union-set.ensures c.remove.ensures.is

pub returns : goal.returns
returns c = spread-end c.args.named.now.query.now c.args.named.now.view c.args.from c.spread.set c.spread.waiting c.spread.invariant c.in_default.ensures
