use Rattle.std.proofs.Common.{◌↔◌, IsTrue}
use Rattle.std.proofs.lemmas.Option.{IfSome_then}
use Rattle.cqa_model.specs.Unions.{IsCertainIn}
use Rattle.union_ask.specs.declared.judging.TheConstants.{SHORT}
use Rattle.union_ask.specs.Knowing.{IsVerdictOf}
use Rattle.union_ask.proofs.Knowing.{certain-said}
use Rattle.union_ask.proofs.judging.told_shortly.Goals as goal

pub returns : goal.returns
returns c =
    let parts = c.args.parts.now in
    let verdict = c.in_ok-verdict.verdict in
    IfSome_then c.said_by.result {P = λ certain. IsVerdictOf certain verdict} {Q = λ certain. IsTrue certain ↔ IsCertainIn parts.db.now parts.queries.now c.args.row.now} c.said_by.ensures
    (λ certain is. certain-said parts.db.now c.args.scope.now.frame.tables parts.queries.now c.args.row.now SHORT certain verdict is c.in_ok-verdict.ensures)
