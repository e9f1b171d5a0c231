use Rattle.std.proofs.Common.{refl}
use Rattle.spj_syntax.specs.Written.{listed_tokens, literal_tokens}
use Rattle.spj_syntax.proofs.Steps.{took_right, took_nothing, opens_then, reads_left}
use Rattle.spj_syntax.proofs.queries.optional_literals.Goals as goal

pub returns-then-sees_literal : goal.returns-then-sees_literal
returns-then-sees_literal c = reads_left _ (listed_tokens literal_tokens) c.literals.result _ (opens_then refl c.if-sees_literal.ensures) c.literals.ensures.reads

pub returns : goal.returns
returns c = rw c.new.ensures (took_right refl (opens_then refl c.if-sees_literal.ensures) took_nothing)
