use Rattle.command_shell.proofs.Doing.{steps_go_on}
use Rattle.command_shell.proofs.laws.steps_go_on.Goals as goal

pub returns : goal.returns
returns c = steps_go_on c.union_answers_exist.ensures c.union_reasons_exist.ensures c.candidates_decide.ensures
