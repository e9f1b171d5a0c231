use Rattle.std.proofs.Common.{inr, refl, sym, subst, ◌∙◌}
use Rattle.refusals.specs.Refusal.{IsRefusedAs}
use Rattle.table_changes.specs.Preferred.{Prefers}
use Rattle.query_resolve.specs.Checks.{tests_fault}
use Rattle.reply_text.specs.declared.reply.Reply.TheVariants.{Deleted}
use Rattle.session_state.specs.State.{State}
use Rattle.session_state.specs.Replying.{Replies}
use Rattle.session_state.specs.Prefer.{prefer_fault, PrefersIn}
use Rattle.session_state.proofs.Doing.{refused_out, on_table-there}
use Rattle.session_state.proofs.Valid.{AreNamed, state_of, named_in, named_with_rows}
use Rattle.session_state.proofs.prefer.prefer.Goals as goal

pub invariant_of-session : goal.invariant_of-session
invariant_of-session c =
    let kept = c.session.inside in
    state_of c.prefer.new.db kept.budget kept.last_log c.prefer.ensures.stored (subst AreNamed (sym c.in_err-count.ensures.err) (named_in kept.database c.session.invariant.valid)) c.session.invariant.budget

pub invariant_of-session-2 : goal.invariant_of-session-2
invariant_of-session-2 c =
    let kept = c.session.inside in
    let preferred = c.in_ok-count.ensures.preferred in
    let named = named_with_rows kept.database c.in_ok-table.table preferred.rows (named_in kept.database c.session.invariant.valid) in
    state_of c.prefer.new.db kept.budget kept.last_log c.prefer.ensures.stored (subst AreNamed (sym preferred.changed) named) c.session.invariant.budget

pub returns-in_err-table : goal.returns-in_err-table
returns-in_err-table c =
    let old = c.args.session.now in
    let name = c.args.name.now in
    let fail = c.in_err-table.field-0.0 in
    let missing = c.in_err-table.ensures.missing (λ table. tests_fault c.session.inside.database table c.args.tests.now) in
    refused_out (prefer_fault old.tables name c.args.tests.now) old old (PrefersIn old name c.args.tests.now) refl c.from_residual.result fail c.from_residual.ensures.1
    (subst (λ (s : State). IsRefusedAs fail (prefer_fault s.tables name c.args.tests.now)) c.session.view_is missing)

pub returns : goal.returns
returns c =
    let name = c.args.name.now in
    let raw = c.args.tests.now in
    let kept = c.session.inside in
    let table = c.in_ok-table in
    let tests = c.in_ok-tests in
    let count = c.in_ok-count.count in
    subst (λ (s : State). Replies (prefer_fault s.tables name raw) s (PrefersIn s name raw) (Deleted count) (record { tables = c.prefer.new.db; budget = kept.budget; last_log = kept.last_log })) c.session.view_is
    (inr (
      on_table-there kept.database name (λ at. tests_fault kept.database at raw) table.table table.ensures.found ∙ tests.ensures.valid,
      record {
        table = table.table;
        found = table.ensures.found;
        tests = tests.tests;
        resolved = tests.ensures.is;
        count = count;
        tables = subst (λ tests. Prefers kept.database table.table tests c.prefer.new.db count) c.as_slice.ensures c.in_ok-count.ensures.preferred;
        others = refl;
        replies = refl;
      },
    ))
