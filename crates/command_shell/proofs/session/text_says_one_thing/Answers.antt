use Rattle.command_shell.proofs.Sayings.{says_same}
use Rattle.command_shell.proofs.session.text_says_one_thing.Goals as goal

pub returns : goal.returns
returns c = says_same
