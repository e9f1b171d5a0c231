use Rattle.std.proofs.Common.{◌≡◌, subst, None}
use Rattle.query_resolve.specs.Checks.{query_fault}
use Rattle.query_resolve.specs.Resolved.{IsQueryOf}
use Rattle.reason_statements.proofs.Proving.{proof_ended}
use Rattle.reason_statements.proofs.prove.prove.Goals as goal

pub returns : goal.returns
returns c =
    let select = c.args.select.now in
    let query = c.in_ok-query.query in
    let tables = c.database.ensures.is in
    proof_ended c.args.session.now c.args.row.now select query c.check_and_prove-reply.result
    (subst (λ db. query_fault db select ≡ None) tables c.in_ok-query.ensures.valid) (subst (λ db. IsQueryOf db select query) tables c.in_ok-query.ensures.is) c.check_and_prove-reply.ensures
