use Rattle.std.proofs.Common.{subst}
use Rattle.union_ask.specs.Knowing.{SaysCertain}
use Rattle.part_search.proofs.Parts.{not-over-lists}
use Rattle.union_ask.proofs.Knowing.{verdict-known}
use Rattle.union_ask.proofs.judging.judge_gathered.Goals as goal

pub returns-in-Some-clause-verdict : goal.returns-in-Some-clause-verdict
returns-in-Some-clause-verdict c =
    let parts = c.args.parts.now in
    let row = c.args.row.now in
    let is = subst (SaysCertain parts.db.now parts.queries.now row) c.in-Some.is c.in_ok-is_certain.ensures.told in
    verdict-known parts.db.now c.args.scope.now.frame.tables parts.queries.now row c.args.search.now.budget c.in-Some.is_certain c.verdict_of.result c.verdict_of.ensures is
    (not-over-lists parts.db.now row parts.queries.now c.args.lists.now c.requires.names c.requires.few)
