use Rattle.std.proofs.Common.{subst}
use Rattle.range_ask.specs.Finding.{IsFurthest}
use Rattle.range_ask.proofs.Further.{spot-first, spot-further}
use Rattle.range_ask.proofs.found.further_spot.Goals as goal

pub returns-in_default : goal.returns-in_default
returns-in_default c = λ p block h t e. spot-first c.args.way p c.args.col block c.args.next t e (subst (IsFurthest c.args.way p c.args.col block c.args.next.at) c.in_default.is h)

pub returns-then-is_further : goal.returns-then-is_further
returns-then-is_further c = λ p block h t e.
    spot-further c.args.way p c.args.col block c.args.next t e c.in-Some.spot (subst (IsFurthest c.args.way p c.args.col block c.args.next.at) c.in-Some.is h) (c.is_further.ensures.further c.if-is_further.true)
