use Rattle.std.proofs.Common.{refl}
use Rattle.spj_syntax.specs.Written.{verb_tokens}
use Rattle.spj_syntax.proofs.Steps.{took_left, took_right, word_took, reads_right}
use Rattle.spj_syntax.proofs.queries.verb.Goals as goal

pub returns-then-sees_word : goal.returns-then-sees_word
returns-then-sees_word c = took_left c.if-sees_word.ensures (word_took c.if-sees_word.ensures c.advance.ensures)

pub returns-then-sees_word-2 : goal.returns-then-sees_word-2
returns-then-sees_word-2 c = took_right refl c.if-sees_word.ensures (took_left c.if-sees_word-2.ensures (word_took c.if-sees_word-2.ensures c.advance-then-sees_word-2.ensures))

pub returns : goal.returns
returns c = reads_right _ verb_tokens c.row_verb.result _ refl c.if-sees_word.ensures (reads_right _ verb_tokens c.row_verb.result _ refl c.if-sees_word-2.ensures c.row_verb.ensures)
