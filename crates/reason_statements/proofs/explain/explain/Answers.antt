use Rattle.std.proofs.Common.{◌≡◌, subst, None}
use Rattle.query_resolve.specs.Checks.{query_fault}
use Rattle.query_resolve.specs.Resolved.{IsQueryOf}
use Rattle.reason_statements.proofs.Explaining.{explained}
use Rattle.reason_statements.proofs.explain.explain.Goals as goal

pub returns : goal.returns
returns c =
    let select = c.args.select.now in
    let query = c.in_ok-query.query in
    let tables = c.database.ensures.is in
    explained c.args.session.now c.check_and_tell-reply.new.session c.args.row.now select query c.check_and_tell-reply.result
    (subst (λ db. query_fault db select ≡ None) tables c.in_ok-query.ensures.valid) (subst (λ db. IsQueryOf db select query) tables c.in_ok-query.ensures.is) c.check_and_tell-reply.ensures
