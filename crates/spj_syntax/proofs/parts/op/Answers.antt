use Rattle.std.proofs.Common.{refl, ◌∷◌, []}
use Rattle.spj_syntax.specs.Lexemes.{Mark}
use Rattle.spj_syntax.specs.Written.{op_symbol}
use Rattle.spj_syntax.proofs.Steps.{took_left, mark_took, reads_right}
use Rattle.spj_syntax.proofs.parts.op.Goals as goal

pub returns-then-sees_mark : goal.returns-then-sees_mark
returns-then-sees_mark c = took_left c.if-sees_mark.ensures (mark_took c.if-sees_mark.ensures c.advance.ensures)

pub returns : goal.returns
returns c = reads_right _ (λ op. Mark (op_symbol op) ∷ []) c.op_but_equal.result _ refl c.if-sees_mark.ensures c.op_but_equal.ensures
