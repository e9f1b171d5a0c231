use Rattle.text_law.proofs.RunAgain.{dump_answers_again}
use Rattle.text_law.proofs.dumps.dump_answers_again.Goals as goal

pub returns : goal.returns
returns c = dump_answers_again
