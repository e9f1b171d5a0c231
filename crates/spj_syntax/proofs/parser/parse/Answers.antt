use Rattle.std.proofs.Common.{arith}
use Rattle.spj_syntax.proofs.Spelled.{spelled_readable, spelled_few}
use Rattle.spj_syntax.proofs.Answered.{ok_statement, ok_fit, ok_written, err_refuses, statement_read, only_statement, only_fault}
use Rattle.spj_syntax.proofs.parser.parse.Goals as goal

pub parse_readable-requires : goal.parse_readable-requires
parse_readable-requires c = record { readable = spelled_readable c.requires.spelled; few = omega (arith, spelled_few c.requires.spelled); short = c.requires.short }

pub returns-clause-statement : goal.returns-clause-statement
returns-clause-statement c = ok_statement _ _ _ c.parse_readable.ensures.exact

pub returns-clause-fit : goal.returns-clause-fit
returns-clause-fit c = ok_fit _ _ _ c.parse_readable.ensures.exact

pub returns-clause-written : goal.returns-clause-written
returns-clause-written c = ok_written _ _ _ c.parse_readable.ensures.exact

pub returns-clause-refused : goal.returns-clause-refused
returns-clause-refused c = err_refuses _ _ _ c.parse_readable.ensures.exact

pub returns-clause-complete : goal.returns-clause-complete
returns-clause-complete c = statement_read _ _ _ c.parse_readable.ensures.exact

pub returns-clause-only : goal.returns-clause-only
returns-clause-only c = only_statement _ _ _ c.parse_readable.ensures.exact

pub returns-clause-only_fault : goal.returns-clause-only_fault
returns-clause-only_fault c = only_fault _ _ _ c.parse_readable.ensures.exact
