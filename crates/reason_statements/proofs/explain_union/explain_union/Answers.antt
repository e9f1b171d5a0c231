use Rattle.std.proofs.Common.{◌≡◌, None, subst, sym}
use Rattle.cqa_model.specs.Unions.{AreParts}
use Rattle.query_resolve.specs.Checks.{union_fault}
use Rattle.query_resolve.specs.Resolved.{AreQueriesOf}
use Rattle.reason_statements.proofs.Uniting.{union_explained}
use Rattle.reason_statements.proofs.explain_union.explain_union.Goals as goal

pub check_and_tell-reply-requires : goal.check_and_tell-reply-requires
check_and_tell-reply-requires c =
    let are = c.in_ok-parts.ensures.is in
    subst (AreParts c.as_slice.result.now) c.database.ensures.is (subst (λ l. AreParts l c.database.result.now) (sym c.as_slice.ensures) are.parts)

pub returns : goal.returns
returns c =
    let old = c.args.session.now in
    let selects = c.args.selects.now.parts in
    let seen = c.as_slice.result.now in
    let tables = c.database.ensures.is in
    union_explained old c.check_and_tell-reply.new.session seen c.args.row.now selects c.check_and_tell-reply.result (subst (λ db. union_fault db selects ≡ None) tables c.in_ok-parts.ensures.valid)
    (subst (λ l. AreQueriesOf old.tables selects l) (sym c.as_slice.ensures) (subst (λ db. AreQueriesOf db selects c.in_ok-parts.parts) tables c.in_ok-parts.ensures.is)) c.check_and_tell-reply.ensures
