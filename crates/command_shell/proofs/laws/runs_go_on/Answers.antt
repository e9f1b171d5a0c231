use Rattle.command_shell.proofs.Running.{runs_go_on}
use Rattle.command_shell.proofs.laws.runs_go_on.Goals as goal

pub returns : goal.returns
returns c = runs_go_on c.steps_go_on.ensures
