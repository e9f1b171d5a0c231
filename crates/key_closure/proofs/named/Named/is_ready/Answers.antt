use Rattle.cqa_model.specs.Variables.{IsKeyVar}
use Rattle.key_closure.specs.Members.{seen}
use Rattle.key_closure.proofs.Members.{within-into, within-from}
use Rattle.key_closure.proofs.named.Named.is_ready.Goals as goal

pub returns : goal.returns
returns c =
    let q = c.args.self.now.query.now in
    let a = c.key_set-keys.result in
    let P = IsKeyVar q (seen q c.args.self.now.view) c.args.atom in (
      (λ t. within-into q a c.args.set.now P c.key_set-keys.ensures.is c.key_set-keys.ensures.proper (c.is_within.ensures.0 t)),
      (λ h. c.is_within.ensures.1 (within-from q a c.args.set.now P c.key_set-keys.ensures.is c.key_set-keys.ensures.proper h)),
    )
