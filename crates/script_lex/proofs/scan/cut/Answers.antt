use Rattle.script_lex.proofs.Statements.{cut_same}
use Rattle.script_lex.proofs.scan.cut.Goals as goal

pub returns-clause-only : goal.returns-clause-only
returns-clause-only c = λ other k. cut_same c.args.at_end c.args.bytes.now _ other c.cut_on.ensures.first k
