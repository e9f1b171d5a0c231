use Rattle.std.proofs.Common.{refl, subst}
use Rattle.refusals.specs.Refusal.{IsRefusedAs}
use Rattle.session_state.specs.State.{State}
use Rattle.session_state.specs.Alter.{change_fault, alter_fault, Alters}
use Rattle.session_state.proofs.Doing.{refused_out}
use Rattle.session_state.proofs.Valid.{state_of, named_in, named_changed}
use Rattle.session_state.proofs.alter.alter.Goals as goal

pub invariant_of-session-2 : goal.invariant_of-session-2
invariant_of-session-2 c =
    let kept = c.session.inside in
    let named = named_changed kept.database c.in_ok-table.table c.args.change.now c.apply.new.database c.in_ok-apply.ensures.checked.is (named_in kept.database c.session.invariant.valid) in
    state_of c.apply.new.database kept.budget kept.last_log c.in_ok-apply.ensures.stored named c.session.invariant.budget

pub returns-in_err-table : goal.returns-in_err-table
returns-in_err-table c =
    let old = c.args.session.now in
    let name = c.args.name.now in
    let change = c.args.change.now in
    let fail = c.in_err-table.field-0.0 in
    let missing = c.in_err-table.ensures.missing (change_fault c.session.inside.database change) in
    refused_out (alter_fault old.tables name change) old old (Alters old name change) refl c.from_residual.result fail c.from_residual.ensures.1
    (subst (λ (s : State). IsRefusedAs fail (alter_fault s.tables name change)) c.session.view_is missing)
