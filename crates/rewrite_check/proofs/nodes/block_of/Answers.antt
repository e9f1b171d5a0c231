use Rattle.rewrite_check.proofs.Steps.{no_tokens}
use Rattle.rewrite_check.proofs.nodes.block_of.Goals as goal

pub returns-in-None-clause-is : goal.returns-in-None-clause-is
returns-in-None-clause-is c = λ other h. no_tokens c.args.text.now c.in_ok-tokens.field-0 c.in-None.is c.in_ok-tokens.ensures h.tokens h.short h.spelled
