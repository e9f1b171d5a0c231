use Rattle.cqa_model.specs.Variables.{IsVar}
use Rattle.cqa_model.specs.Closures.{InPlus}
use Rattle.key_closure.specs.Members.{seen}
use Rattle.attack_graph.proofs.SpreadSteps.{in_without}
use Rattle.attack_graph.proofs.spreading.outside.Goals as goal

pub returns : goal.returns
returns c = let q = c.args.named.now.query.now in let v = c.args.named.now.view in
    in_without q c.var_set-vars.result c.args.plus.now c.without.result (IsVar q (seen q v) c.args.atom) (InPlus q (seen q v) c.args.from) c.var_set-vars.ensures.is c.requires.plus c.without.ensures
