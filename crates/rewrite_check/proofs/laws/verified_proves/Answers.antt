use Rattle.rewrite_check.proofs.Proving.{verified_proves}
use Rattle.rewrite_check.proofs.laws.verified_proves.Goals as goal

pub returns : goal.returns
returns c = verified_proves
