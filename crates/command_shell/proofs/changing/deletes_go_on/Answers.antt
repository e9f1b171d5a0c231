use Rattle.command_shell.proofs.Whole.{deletes_go_on}
use Rattle.command_shell.proofs.changing.deletes_go_on.Goals as goal

pub returns : goal.returns
returns c = deletes_go_on
