use Rattle.command_shell.proofs.Whole.{creates_go_on}
use Rattle.command_shell.proofs.changing.creates_go_on.Goals as goal

pub returns : goal.returns
returns c = creates_go_on
