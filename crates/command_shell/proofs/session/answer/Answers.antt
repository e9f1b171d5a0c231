use Rattle.std.specs.Option.{option_copied}
use Rattle.command_shell.proofs.Sayings.{refused_by_form, done_as_read}
use Rattle.command_shell.proofs.session.answer.Goals as goal

pub returns-in_err-statement : goal.returns-in_err-statement
returns-in_err-statement c = refused_by_form c.args.session.now c.args.text.now (option_copied c.args.block) c.from_residual.result c.in_err-statement.field-0.0 c.from_residual.ensures.1 c.in_err-statement.ensures.says

pub returns : goal.returns
returns c =
    done_as_read c.args.session.now c.execute.new.session c.args.text.now (option_copied c.args.block) c.in_ok-statement.statement c.execute.result c.in_ok-statement.ensures.says c.execute.ensures
