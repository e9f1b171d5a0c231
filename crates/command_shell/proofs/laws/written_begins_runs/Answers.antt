use Rattle.command_shell.proofs.Written.{begins_run}
use Rattle.command_shell.proofs.laws.written_begins_runs.Goals as goal

pub returns : goal.returns
returns c old new bytes written cut is ended so = begins_run cut ended so (c.states_go_on.ensures new is)
