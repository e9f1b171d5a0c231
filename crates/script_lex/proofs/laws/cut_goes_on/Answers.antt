use Rattle.script_lex.proofs.Statements.{cuts_go_on}
use Rattle.script_lex.proofs.laws.cut_goes_on.Goals as goal

pub returns : goal.returns
returns c = cuts_go_on
