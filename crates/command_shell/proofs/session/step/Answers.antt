use Rattle.std.specs.Option.{option_copied}
use Rattle.reply_text.specs.declared.reply.Reply.TheVariants.{Refused}
use Rattle.command_shell.proofs.Sayings.{does_as_said}
use Rattle.command_shell.proofs.session.step.Goals as goal

pub returns-in-Ok-clause-complete : goal.returns-in-Ok-clause-complete
returns-in-Ok-clause-complete c said says = does_as_said c.args.session.now _ c.args.text.now (option_copied c.args.block) c.in-Ok.reply c.in-Ok.ensures said says

pub returns-in-Err-Refused-clause-complete : goal.returns-in-Err-Refused-clause-complete
returns-in-Err-Refused-clause-complete c said says = does_as_said c.args.session.now _ c.args.text.now (option_copied c.args.block) (Refused c.in-Err-Refused.refusal) (rw c.in-Err-Refused.field-0-is at c.in-Err-Refused.ensures) said says
