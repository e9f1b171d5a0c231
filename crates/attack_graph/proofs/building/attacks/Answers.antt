use Rattle.cqa_model.specs.Variables.{whole}
use Rattle.key_closure.specs.Members.{seen}
use Rattle.attack_graph.proofs.Sameness.{same-graph}
use Rattle.attack_graph.proofs.building.attacks.Goals as goal

pub returns-clause-whole : goal.returns-clause-whole
returns-clause-whole c = λ s. same-graph c.args.query.now (whole c.args.query.now) (seen c.args.query.now c.args.view.now) s _ (record {
  by = c.attack_rows-by.ensures;
  weak = λ F G k. ((λ p. ((c.weak_rows-weak.ensures F G).0 p).2), (λ w. (c.weak_rows-weak.ensures F G).1 (k.0.0, k.1.0, w)));
})
