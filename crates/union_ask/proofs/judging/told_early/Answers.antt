use Rattle.std.proofs.Common.{subst}
use Rattle.union_ask.specs.Knowing.{SaysCertain}
use Rattle.union_ask.proofs.Knowing.{given-long}
use Rattle.union_ask.proofs.judging.told_early.Goals as goal

pub are_asked_first-requires : goal.are_asked_first-requires
are_asked_first-requires c =
    let parts = c.args.parts.now in
    given-long parts.db.now parts.queries.now c.args.row.now c.args.search.now.given.items c.requires.given

pub returns-in-Some-clause-told : goal.returns-in-Some-clause-told
returns-in-Some-clause-told c =
    let parts = c.args.parts.now in
    subst (SaysCertain parts.db.now parts.queries.now c.args.row.now) c.in-Some.is c.in_ok-is_certain.ensures
