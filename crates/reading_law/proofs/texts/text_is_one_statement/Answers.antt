use Rattle.spj_syntax.proofs.Once.{statement_once}
use Rattle.reading_law.proofs.texts.text_is_one_statement.Goals as goal

pub returns : goal.returns
returns c = statement_once
