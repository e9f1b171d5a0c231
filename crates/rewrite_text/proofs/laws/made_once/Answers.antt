use Rattle.rewrite_text.proofs.Made.{made_once}
use Rattle.rewrite_text.proofs.laws.made_once.Goals as goal

pub returns : goal.returns
returns c = made_once
