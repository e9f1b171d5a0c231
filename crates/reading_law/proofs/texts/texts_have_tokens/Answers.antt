use Rattle.reading_law.proofs.Spelling.{texts_have_tokens}
use Rattle.reading_law.proofs.texts.texts_have_tokens.Goals as goal

pub returns : goal.returns
returns c = texts_have_tokens
