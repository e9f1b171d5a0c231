use Rattle.command_shell.proofs.Sayings.{says_something}
use Rattle.command_shell.proofs.session.text_says_something.Goals as goal

pub returns : goal.returns
returns c = says_something
