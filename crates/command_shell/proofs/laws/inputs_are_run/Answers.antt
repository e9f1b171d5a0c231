use Rattle.command_shell.proofs.Running.{inputs_are_run}
use Rattle.command_shell.proofs.laws.inputs_are_run.Goals as goal

pub returns : goal.returns
returns c = inputs_are_run c.runs_go_on.ensures c.inputs_are_cut.ensures
