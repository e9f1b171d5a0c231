use Rattle.std.proofs.Common.{◌≡◌, None, subst}
use Rattle.query_resolve.specs.Checks.{query_fault}
use Rattle.query_resolve.specs.Resolved.{IsQueryOf}
use Rattle.query_statements.proofs.Asking.{answered}
use Rattle.query_statements.proofs.sides.tell_side.Goals as goal

pub returns : goal.returns
returns c =
    let old = c.args.session.now in
    let select = c.args.select.now in
    let query = c.in_ok-query.query in
    let tables = c.database.ensures.is in
    answered old c.tell_rows-reply.new.session query c.args.side (query_fault old.tables select) select c.tell_rows-reply.result (subst (λ db. query_fault db select ≡ None) tables c.in_ok-query.ensures.valid)
    (subst (λ db. IsQueryOf db select query) tables c.in_ok-query.ensures.is) c.tell_rows-reply.ensures
