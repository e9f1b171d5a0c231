use Rattle.command_shell.proofs.Whole.{prefers_go_on}
use Rattle.command_shell.proofs.changing.prefers_go_on.Goals as goal

pub returns : goal.returns
returns c = prefers_go_on
