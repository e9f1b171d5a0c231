use Rattle.std.proofs.Common.{refl}
use Rattle.spj_syntax.specs.Written.{statement_tokens}
use Rattle.spj_syntax.proofs.Steps.{opens_then, reads_left, reads_right}
use Rattle.spj_syntax.proofs.statements.plain.Goals as goal

pub returns-then-sees_word-clause-reads : goal.returns-then-sees_word-clause-reads
returns-then-sees_word-clause-reads c = reads_left _ statement_tokens c.create.result _ (opens_then refl c.if-sees_word.ensures) c.create.ensures.reads

pub returns-then-sees_word-2-clause-reads : goal.returns-then-sees_word-2-clause-reads
returns-then-sees_word-2-clause-reads c = reads_right _ statement_tokens c.alter.result _ refl (opens_then refl c.if-sees_word.ensures) (reads_left _ statement_tokens c.alter.result _ (opens_then refl c.if-sees_word-2.ensures) c.alter.ensures.reads)

pub returns-then-sees_word-3-clause-reads : goal.returns-then-sees_word-3-clause-reads
returns-then-sees_word-3-clause-reads c = reads_right _ statement_tokens c.insert.result _ refl (opens_then refl c.if-sees_word.ensures) (reads_right _ statement_tokens c.insert.result _ refl (opens_then refl c.if-sees_word-2.ensures) (reads_left _ statement_tokens c.insert.result _ (opens_then refl c.if-sees_word-3.ensures) c.insert.ensures.reads))

pub returns-then-sees_word-4-clause-reads : goal.returns-then-sees_word-4-clause-reads
returns-then-sees_word-4-clause-reads c = reads_right _ statement_tokens c.delete.result _ refl (opens_then refl c.if-sees_word.ensures) (reads_right _ statement_tokens c.delete.result _ refl (opens_then refl c.if-sees_word-2.ensures) (reads_right _ statement_tokens c.delete.result _ refl (opens_then refl c.if-sees_word-3.ensures) (reads_left _ statement_tokens c.delete.result _ (opens_then refl c.if-sees_word-4.ensures) c.delete.ensures.reads)))

pub returns-then-sees_word-5-clause-reads : goal.returns-then-sees_word-5-clause-reads
returns-then-sees_word-5-clause-reads c = reads_right _ statement_tokens c.prefer.result _ refl (opens_then refl c.if-sees_word.ensures) (reads_right _ statement_tokens c.prefer.result _ refl (opens_then refl c.if-sees_word-2.ensures) (reads_right _ statement_tokens c.prefer.result _ refl (opens_then refl c.if-sees_word-3.ensures) (reads_right _ statement_tokens c.prefer.result _ refl (opens_then refl c.if-sees_word-4.ensures) (reads_left _ statement_tokens c.prefer.result _ (opens_then refl c.if-sees_word-5.ensures) c.prefer.ensures.reads))))

pub returns-then-sees_word-6-clause-reads : goal.returns-then-sees_word-6-clause-reads
returns-then-sees_word-6-clause-reads c = reads_right _ statement_tokens c.copy.result _ refl (opens_then refl c.if-sees_word.ensures) (reads_right _ statement_tokens c.copy.result _ refl (opens_then refl c.if-sees_word-2.ensures) (reads_right _ statement_tokens c.copy.result _ refl (opens_then refl c.if-sees_word-3.ensures) (reads_right _ statement_tokens c.copy.result _ refl (opens_then refl c.if-sees_word-4.ensures) (reads_right _ statement_tokens c.copy.result _ refl (opens_then refl c.if-sees_word-5.ensures) (reads_left _ statement_tokens c.copy.result _ (opens_then refl c.if-sees_word-6.ensures) c.copy.ensures.reads)))))

pub returns-clause-reads : goal.returns-clause-reads
returns-clause-reads c = reads_right _ statement_tokens c.telling.result _ refl (opens_then refl c.if-sees_word.ensures) (reads_right _ statement_tokens c.telling.result _ refl (opens_then refl c.if-sees_word-2.ensures) (reads_right _ statement_tokens c.telling.result _ refl (opens_then refl c.if-sees_word-3.ensures) (reads_right _ statement_tokens c.telling.result _ refl (opens_then refl c.if-sees_word-4.ensures) (reads_right _ statement_tokens c.telling.result _ refl (opens_then refl c.if-sees_word-5.ensures) (reads_right _ statement_tokens c.telling.result _ refl (opens_then refl c.if-sees_word-6.ensures) c.telling.ensures.reads)))))
