use Rattle.std.proofs.Common.{refl, sym, subst}
use Rattle.refusals.specs.Refusal.{IsRefusedAs}
use Rattle.table_changes.specs.Changes.{insert_fault}
use Rattle.session_state.specs.State.{State}
use Rattle.session_state.specs.Insert.{insert_into_fault, InsertsInto}
use Rattle.session_state.proofs.Doing.{refused_out}
use Rattle.session_state.proofs.Valid.{AreNamed, state_of, named_in, named_with_rows}
use Rattle.session_state.proofs.insert.insert.Goals as goal

pub invariant_of-session : goal.invariant_of-session
invariant_of-session c =
    let kept = c.session.inside in
    state_of c.insert.new.db kept.budget kept.last_log c.insert.ensures.stored (subst AreNamed (sym c.in_err-count.ensures.err) (named_in kept.database c.session.invariant.valid)) c.session.invariant.budget

pub invariant_of-session-2 : goal.invariant_of-session-2
invariant_of-session-2 c =
    let kept = c.session.inside in
    let inserted = c.in_ok-count.ensures.inserted in
    let named = named_with_rows kept.database c.in_ok-table.table inserted.rows (named_in kept.database c.session.invariant.valid) in
    state_of c.insert.new.db kept.budget kept.last_log c.insert.ensures.stored (subst AreNamed (sym inserted.changed) named) c.session.invariant.budget

pub returns-in_err-table : goal.returns-in_err-table
returns-in_err-table c =
    let old = c.args.session.now in
    let name = c.args.name.now in
    let fail = c.in_err-table.field-0.0 in
    let missing = c.in_err-table.ensures.missing (λ table. insert_fault c.session.inside.database table c.args.rows) in
    refused_out (insert_into_fault old.tables name c.args.rows) old old (InsertsInto old name c.args.rows) refl c.from_residual.result fail c.from_residual.ensures.1
    (subst (λ (s : State). IsRefusedAs fail (insert_into_fault s.tables name c.args.rows)) c.session.view_is missing)
