use Rattle.spj_syntax.proofs.Steps.{word_took, one_fails}
use Rattle.spj_syntax.proofs.reader.Reader.word.Goals as goal

pub returns-then-sees_word : goal.returns-then-sees_word
returns-then-sees_word c = word_took c.if-sees_word.ensures c.advance.ensures

pub returns-else-sees_word : goal.returns-else-sees_word
returns-else-sees_word c = one_fails c.if-sees_word.ensures
