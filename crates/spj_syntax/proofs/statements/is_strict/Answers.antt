use Rattle.spj_syntax.proofs.Steps.{took_left, took_right, took_nothing, word_took}
use Rattle.std.proofs.Common.{refl}
use Rattle.spj_syntax.proofs.statements.is_strict.Goals as goal

pub returns-then-sees_word : goal.returns-then-sees_word
returns-then-sees_word c = took_left c.if-sees_word.ensures (word_took c.if-sees_word.ensures c.advance.ensures)

pub returns : goal.returns
returns c = took_right refl c.if-sees_word.ensures took_nothing
