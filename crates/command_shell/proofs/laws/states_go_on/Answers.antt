use Rattle.command_shell.proofs.Written.{states_go_on}
use Rattle.command_shell.proofs.laws.states_go_on.Goals as goal

pub returns : goal.returns
returns c = states_go_on c.runs_go_on.ensures c.inputs_are_cut.ensures
