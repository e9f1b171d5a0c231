use Rattle.cqa_model.specs.Graph.{IsWeak}
use Rattle.key_closure.specs.Members.{seen}
use Rattle.key_closure.proofs.Growing.{filter-more}
use Rattle.attack_graph.proofs.building.weak_row.Goals as goal

pub loop-atom-preserved : goal.loop-atom-preserved
loop-atom-preserved c = filter-more (IsWeak c.args.named.now.query.now (seen c.args.named.now.query.now c.args.named.now.view) c.args.from) c.loop-atom.atoms c.insert_if.new.self c.loop-atom.atom c.is_weak-wanted.result
    c.loop-atom.invariant c.is_weak-wanted.ensures c.insert_if.ensures
