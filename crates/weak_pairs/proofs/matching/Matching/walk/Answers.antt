use Rattle.std.proofs.Common.{sym, ◌∙◌, true≢false}
use Rattle.weak_pairs.proofs.Peeling.{walked-first, walked-go, walked-done, walked-end}
use Rattle.weak_pairs.proofs.matching.Matching.walk.Goals as goal

pub walk-init : goal.walk-init
walk-init c = walked-first c.args.graph.now c.args.self.now c.args.first c.requires.matching c.requires.block c.requires.settled

pub walk-preserved : goal.walk-preserved
walk-preserved c =
    walked-go c.args.graph.now c.args.self.now c.walk.self c.args.first c.walk.at c.walk.invariant
    c.take.new.self c.free_row-row.result c.take.result c.take.ensures c.in-Some.next c.in-Some.is

pub returns-in-None : goal.returns-in-None
returns-in-None c =
    walked-done c.args.graph.now c.args.self.now c.walk.self c.args.first c.walk.at c.walk.invariant
    c.take.new.self c.free_row-row.result c.take.result c.take.ensures c.in-None.is

pub returns : goal.returns
returns c =
    walked-end c.args.graph.now c.args.self.now c.walk.self c.args.first c.walk.at c.walk.invariant
    (λ o. true≢false (sym (c.is_open.ensures.1 o) ∙ c.walk-test.false))
