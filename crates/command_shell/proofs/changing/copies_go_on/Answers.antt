use Rattle.command_shell.proofs.Whole.{copies_go_on}
use Rattle.command_shell.proofs.changing.copies_go_on.Goals as goal

pub returns : goal.returns
returns c = copies_go_on
