use Rattle.command_shell.proofs.Whole.{inserts_go_on}
use Rattle.command_shell.proofs.changing.inserts_go_on.Goals as goal

pub returns : goal.returns
returns c = inserts_go_on
