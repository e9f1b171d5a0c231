use Rattle.std.proofs.Common.{◌≡◌, None, subst, sym}
use Rattle.cqa_model.specs.Unions.{AreParts}
use Rattle.query_resolve.specs.Checks.{union_fault}
use Rattle.query_resolve.specs.Resolved.{AreQueriesOf}
use Rattle.query_statements.proofs.Uniting.{union_answered}
use Rattle.query_statements.proofs.ask_union.ask_union.Goals as goal

pub tell_rows-reply-requires : goal.tell_rows-reply-requires
tell_rows-reply-requires c =
    let are = c.in_ok-parts.ensures.is in
    subst (AreParts c.as_slice.result.now) c.database.ensures.is (subst (λ l. AreParts l c.database.result.now) (sym c.as_slice.ensures) are.parts)

pub returns : goal.returns
returns c =
    let old = c.args.session.now in
    let selects = c.args.selects.now.parts in
    let seen = c.as_slice.result.now in
    let tables = c.database.ensures.is in
    union_answered old c.tell_rows-reply.new.session seen selects c.tell_rows-reply.result (subst (λ db. union_fault db selects ≡ None) tables c.in_ok-parts.ensures.valid)
    (subst (λ l. AreQueriesOf old.tables selects l) (sym c.as_slice.ensures) (subst (λ db. AreQueriesOf db selects c.in_ok-parts.parts) tables c.in_ok-parts.ensures.is)) c.tell_rows-reply.ensures
