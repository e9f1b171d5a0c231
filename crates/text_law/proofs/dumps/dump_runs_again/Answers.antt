use Rattle.text_law.proofs.RunAgain.{dump_runs_again}
use Rattle.text_law.proofs.dumps.dump_runs_again.Goals as goal

pub returns : goal.returns
returns c = dump_runs_again
