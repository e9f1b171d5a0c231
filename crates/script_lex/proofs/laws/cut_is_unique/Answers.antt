use Rattle.script_lex.proofs.Statements.{at_most_one_cut}
use Rattle.script_lex.proofs.laws.cut_is_unique.Goals as goal

pub returns : goal.returns
returns c = at_most_one_cut
