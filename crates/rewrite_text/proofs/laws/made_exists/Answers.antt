use Rattle.rewrite_text.proofs.Made.{made_exists}
use Rattle.rewrite_text.proofs.laws.made_exists.Goals as goal

pub returns : goal.returns
returns c = made_exists
