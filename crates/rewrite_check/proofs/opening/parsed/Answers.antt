use Rattle.rewrite_check.proofs.Steps.{not_said}
use Rattle.rewrite_check.proofs.opening.parsed.Goals as goal

pub returns-in-Err-Refused : goal.returns-in-Err-Refused
returns-in-Err-Refused c = not_said c.args.text.now c.args.tokens.now c.in-Err-Refused.field-0 c.in-Err-Refused.field-0-0 c.in-Err-Refused.field-0-is c.requires.spelled c.in-Err-Refused.ensures.complete
