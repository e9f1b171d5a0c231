use Rattle.text_law.proofs.Proved.{proved_is_verified}
use Rattle.text_law.proofs.certificates.proved_is_verified.Goals as goal

pub returns : goal.returns
returns c = proved_is_verified
