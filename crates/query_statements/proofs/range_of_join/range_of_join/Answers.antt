use Rattle.std.proofs.Common.{◌≡◌, None, refl, subst}
use Rattle.refusals.specs.Refusal.{IsRefusedAs}
use Rattle.query_resolve.specs.Checks.{range_join_fault}
use Rattle.query_resolve.specs.Resolved.{IsRangeOf}
use Rattle.query_statements.specs.RangeOfJoin.{TellsRangeJoin}
use Rattle.session_state.proofs.Doing.{refused_out}
use Rattle.query_statements.proofs.Joining.{join_answered}
use Rattle.query_statements.proofs.range_of_join.range_of_join.Goals as goal

pub returns-in_err-resolved : goal.returns-in_err-resolved
returns-in_err-resolved c =
    let old = c.args.session.now in
    let raw = c.args.range.now in
    let fail = c.in_err-resolved.field-0.0 in
    refused_out (range_join_fault old.tables raw) old old (TellsRangeJoin old raw) refl c.from_residual.result fail c.from_residual.ensures.1
    (subst (λ db. IsRefusedAs fail (range_join_fault db raw)) c.database.ensures.is c.in_err-resolved.ensures.refused)

pub returns : goal.returns
returns c =
    let raw = c.args.range.now in
    let range = c.in_ok-resolved.resolved in
    let tables = c.database.ensures.is in
    join_answered c.args.session.now raw range c.tell_within-reply.result (subst (λ db. range_join_fault db raw ≡ None) tables c.in_ok-resolved.ensures.valid)
    (subst (λ db. IsRangeOf db raw range) tables c.in_ok-resolved.ensures.is) c.tell_within-reply.ensures
