use Rattle.std.proofs.Common.{refl}
use Rattle.std.proofs.lemmas.Result.{IfOk-weaker}
use Rattle.spj_syntax.specs.Written.{anded_tokens, filtered_tokens}
use Rattle.spj_syntax.proofs.Steps.{took_right, took_nothing, word_took, opens_then, filtered_some, reads_left, reads_then}
use Rattle.spj_syntax.proofs.lists.filtered.Goals as goal

pub returns-then-sees_word-clause-reads : goal.returns-then-sees_word-clause-reads
returns-then-sees_word-clause-reads g c =
    reads_left _ (filtered_tokens g.P.Piece.tokens) c.anded.result _ (opens_then refl c.if-sees_word.ensures)
    (reads_then _ (anded_tokens g.P.Piece.tokens) (filtered_tokens g.P.Piece.tokens) c.anded.result _ (word_took c.if-sees_word.ensures c.advance.ensures) c.anded.ensures.reads
    (IfOk-weaker c.anded.result _ _ (filtered_some g.P.Piece.tokens) c.anded.ensures.some))

pub returns-clause-reads : goal.returns-clause-reads
returns-clause-reads g c = rw c.new.ensures (took_right refl (opens_then refl c.if-sees_word.ensures) took_nothing)
