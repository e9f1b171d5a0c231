use Rattle.std.proofs.Common.{arith}
use Rattle.spj_syntax.proofs.Whole.{set_accepted, set_refused}
use Rattle.spj_syntax.proofs.parser.parse_set.Goals as goal

pub returns-in-Some-clause-exact : goal.returns-in-Some-clause-exact
returns-in-Some-clause-exact c = set_accepted c.args.text.now c.args.tokens.now _ c.in-Some.number c.requires.set c.in_ok-set_digits.ensures.whole c.in-Some.ensures (omega arith) c.in_ok-set_digits.ensures.statement

pub returns-in-None-clause-exact : goal.returns-in-None-clause-exact
returns-in-None-clause-exact c =
    let u = set_refused c.args.text.now c.args.tokens.now _ _ c.in_ok-set_digits.ensures.whole c.in-None.ensures in
    (c.in_ok-set_digits.ensures.statement, rw (c.offset.ensures, c.requires.set) u)
