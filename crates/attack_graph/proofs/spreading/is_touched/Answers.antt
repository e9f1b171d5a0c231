use Rattle.cqa_model.specs.Variables.{IsVar}
use Rattle.key_closure.specs.Members.{seen}
use Rattle.key_closure.proofs.Members.{meets-into, meets-from}
use Rattle.attack_graph.proofs.spreading.is_touched.Goals as goal

pub returns : goal.returns
returns c =
    let q = c.args.named.now.query.now in
    let a = c.var_set-vars.result in (
      (λ t. meets-into q a c.args.set.now (IsVar q (seen q c.args.named.now.view) c.args.atom) c.var_set-vars.ensures.is c.var_set-vars.ensures.proper (c.meets.ensures.0 t)),
      (λ h. c.meets.ensures.1 (meets-from q a c.args.set.now (IsVar q (seen q c.args.named.now.view) c.args.atom) c.var_set-vars.ensures.is c.var_set-vars.ensures.proper h)),
    )
