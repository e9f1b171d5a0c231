use Rattle.std.proofs.Common.{refl}
use Rattle.std.proofs.lemmas.Result.{IfOk-weaker}
use Rattle.spj_syntax.specs.Written.{head_tokens, listed_tokens, col_tokens}
use Rattle.spj_syntax.proofs.Steps.{took_right, word_took, opens_then, fails_right, exit, head_some, reads_left, reads_then}
use Rattle.spj_syntax.proofs.queries.head.Goals as goal

pub returns-then-sees_word : goal.returns-then-sees_word
returns-then-sees_word c =
    reads_left _ head_tokens c.listed.result _ (opens_then refl c.if-sees_word.ensures)
    (reads_then _ (listed_tokens col_tokens) head_tokens c.listed.result _ (word_took c.if-sees_word.ensures c.advance.ensures) c.listed.ensures.reads (IfOk-weaker c.listed.result _ _ head_some c.listed.ensures.some))

pub returns-in_err-word : goal.returns-in_err-word
returns-in_err-word c = exit _ _ c.from_residual.ensures.1 (fails_right refl (opens_then refl c.if-sees_word.ensures) c.in_err-word.ensures)

pub returns : goal.returns
returns c = rw c.new.ensures (took_right refl (opens_then refl c.if-sees_word.ensures) c.in_ok-word.ensures)
