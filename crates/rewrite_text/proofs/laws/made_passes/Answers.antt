use Rattle.rewrite_text.proofs.Made.{made_passes}
use Rattle.rewrite_text.proofs.laws.made_passes.Goals as goal

pub returns : goal.returns
returns c = made_passes
