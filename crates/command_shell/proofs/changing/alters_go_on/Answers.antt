use Rattle.command_shell.proofs.Whole.{alters_go_on}
use Rattle.command_shell.proofs.changing.alters_go_on.Goals as goal

pub returns : goal.returns
returns c = alters_go_on
