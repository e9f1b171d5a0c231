use Rattle.spj_syntax.proofs.Whole.{first_unfit_at}
use Rattle.spj_syntax.proofs.parser.first_unfit.Goals as goal

pub returns-in-Some : goal.returns-in-Some
returns-in-Some c = first_unfit_at c.args.text.now c.args.tokens.now c.loop-token.token-index _ c.in-Some.fault c.loop-token-test.true c.loop-token.invariant c.in-Some.ensures
