use Rattle.std.proofs.Common.{refl}
use Rattle.spj_syntax.proofs.Steps.{took_both, took_left, took_right, word_took, fails_first, fails_then, fails_right, exit}
use Rattle.spj_syntax.proofs.statements.show.Goals as goal

pub returns-in_err-word-clause-reads : goal.returns-in_err-word-clause-reads
returns-in_err-word-clause-reads c = exit _ _ c.from_residual.ensures.1 (fails_first c.in_err-word.ensures)

pub returns-then-sees_word-clause-reads : goal.returns-then-sees_word-clause-reads
returns-then-sees_word-clause-reads c = took_both c.in_ok-word.ensures (took_left c.if-sees_word.ensures (word_took c.if-sees_word.ensures c.advance.ensures)) refl

pub returns-then-sees_word-2-clause-reads : goal.returns-then-sees_word-2-clause-reads
returns-then-sees_word-2-clause-reads c = took_both c.in_ok-word.ensures (took_right refl c.if-sees_word.ensures (took_left c.if-sees_word-2.ensures (word_took c.if-sees_word-2.ensures c.advance-then-sees_word-2.ensures))) refl

pub returns-in_err-word-2-clause-reads : goal.returns-in_err-word-2-clause-reads
returns-in_err-word-2-clause-reads c = exit _ _ c.from_residual-in_err-word-2.ensures.1 (fails_then c.in_ok-word.ensures (fails_right refl c.if-sees_word.ensures (fails_right refl c.if-sees_word-2.ensures c.in_err-word-2.ensures)))

pub returns-clause-reads : goal.returns-clause-reads
returns-clause-reads c = took_both c.in_ok-word.ensures (took_right refl c.if-sees_word.ensures (took_right refl c.if-sees_word-2.ensures c.in_ok-word-2.ensures)) refl
