use Rattle.cqa_model.specs.Graph.{Attacks}
use Rattle.key_closure.specs.Members.{seen}
use Rattle.key_closure.proofs.Growing.{filter-more}
use Rattle.attack_graph.proofs.building.attacked_by.Goals as goal

pub loop-atom-preserved : goal.loop-atom-preserved
loop-atom-preserved c = filter-more (Attacks c.args.named.now.query.now (seen c.args.named.now.query.now c.args.named.now.view) c.args.from) c.loop-atom.atoms c.insert_if.new.self c.loop-atom.atom c.is_attacked-wanted.result
    c.loop-atom.invariant c.is_attacked-wanted.ensures c.insert_if.ensures
