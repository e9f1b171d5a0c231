use Rattle.std.proofs.Common.{All}
use Rattle.script_lex.specs.Tokens.{LiesIn, IsSpelled, Rise}
use Rattle.script_lex.proofs.Spelling.{only_tokens, only_fault}
use Rattle.script_lex.proofs.Placed.{lie_in, spelled, rise, of_answer}
use Rattle.script_lex.proofs.lexer.tokens.Goals as goal

pub returns-clause-only_tokens : goal.returns-clause-only_tokens
returns-clause-only_tokens c = only_tokens c.args.text.now c.tokens_of_short.result c.if-text-gt-LONGEST_TEXT.false c.tokens_of_short.ensures

pub returns-clause-only_fault : goal.returns-clause-only_fault
returns-clause-only_fault c = only_fault c.args.text.now c.tokens_of_short.result c.if-text-gt-LONGEST_TEXT.false c.tokens_of_short.ensures

pub returns-clause-lie_in : goal.returns-clause-lie_in
returns-clause-lie_in c = of_answer (All (LiesIn c.args.text.now)) c.args.text.now c.tokens_of_short.result (lie_in c.args.text.now) c.tokens_of_short.ensures

pub returns-clause-rise : goal.returns-clause-rise
returns-clause-rise c = of_answer (Rise 0) c.args.text.now c.tokens_of_short.result (rise c.args.text.now) c.tokens_of_short.ensures

pub returns-clause-spelled : goal.returns-clause-spelled
returns-clause-spelled c = of_answer (All (IsSpelled c.args.text.now)) c.args.text.now c.tokens_of_short.result (spelled c.args.text.now) c.tokens_of_short.ensures
