use Rattle.reading_law.proofs.Parsing.{tokens_are_decided}
use Rattle.reading_law.proofs.texts.tokens_are_decided.Goals as goal

pub returns : goal.returns
returns c = tokens_are_decided
