use Rattle.std.proofs.Common.{refl}
use Rattle.spj_syntax.specs.Written.{statement_tokens}
use Rattle.spj_syntax.proofs.Steps.{took_left, word_took, opens_then, reads_left, reads_right}
use Rattle.spj_syntax.proofs.statements.telling.Goals as goal

pub returns-then-sees_word-clause-reads : goal.returns-then-sees_word-clause-reads
returns-then-sees_word-clause-reads c = took_left c.if-sees_word.ensures (word_took c.if-sees_word.ensures c.advance.ensures)

pub returns-then-sees_word-2-clause-reads : goal.returns-then-sees_word-2-clause-reads
returns-then-sees_word-2-clause-reads c =
    reads_right _ statement_tokens c.show.result _ refl c.if-sees_word.ensures
    (reads_left _ statement_tokens c.show.result _ (opens_then refl c.if-sees_word-2.ensures) c.show.ensures.reads)

pub returns-then-sees_word-3-clause-reads : goal.returns-then-sees_word-3-clause-reads
returns-then-sees_word-3-clause-reads c =
    reads_right _ statement_tokens c.range.result _ refl c.if-sees_word.ensures
    (reads_right _ statement_tokens c.range.result _ refl (opens_then refl c.if-sees_word-2.ensures)
    (reads_left _ statement_tokens c.range.result _ (opens_then refl c.if-sees_word-3.ensures) c.range.ensures.reads))

pub returns-clause-reads : goal.returns-clause-reads
returns-clause-reads c =
    reads_right _ statement_tokens c.asking.result _ refl c.if-sees_word.ensures
    (reads_right _ statement_tokens c.asking.result _ refl (opens_then refl c.if-sees_word-2.ensures)
    (reads_right _ statement_tokens c.asking.result _ refl (opens_then refl c.if-sees_word-3.ensures) c.asking.ensures.reads))
