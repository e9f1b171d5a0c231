use Rattle.rewrite_check.proofs.Steps.{no_tokens}
use Rattle.rewrite_check.proofs.opening.statement_of.Goals as goal

pub returns-in-None : goal.returns-in-None
returns-in-None c = λ other h. no_tokens c.args.text.now c.in_ok-tokens.field-0 c.in-None.is c.in_ok-tokens.ensures h.tokens h.short h.spelled
