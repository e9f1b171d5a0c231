use Rattle.std.proofs.Common.{inr, refl, sym, ap, subst}
use Rattle.query_resolve.specs.Checks.{schema_fault}
use Rattle.reply_text.specs.declared.reply.Reply.TheVariants.{Created}
use Rattle.session_state.specs.State.{State}
use Rattle.session_state.specs.Replying.{Replies}
use Rattle.session_state.specs.Create.{Creates}
use Rattle.session_state.proofs.Valid.{AreNamed, state_of, named_in, named_schema, named_more}
use Rattle.session_state.proofs.create.create.Goals as goal

pub invariant_of-session : goal.invariant_of-session
invariant_of-session c =
    let kept = c.session.inside in
    state_of c.create.new.self kept.budget kept.last_log c.create.ensures.stored (subst AreNamed (sym c.in_err-create.ensures.err) (named_in kept.database c.session.invariant.valid)) c.session.invariant.budget

pub invariant_of-session-2 : goal.invariant_of-session-2
invariant_of-session-2 c =
    let kept = c.session.inside in
    let schema = c.in_ok-schema in
    let named = named_more kept.database schema.schema (named_in kept.database c.session.invariant.valid) (named_schema c.args.raw.now schema.schema schema.ensures.checked.is) in
    state_of c.create.new.self kept.budget kept.last_log c.create.ensures.stored (subst AreNamed (sym c.in_ok-create.ensures.ok) named) c.session.invariant.budget

pub returns : goal.returns
returns c =
    let raw = c.args.raw.now in
    let name = c.in_ok-name.name in
    let kept = c.session.inside in
    let schema = c.in_ok-schema in
    subst (λ (s : State). Replies (schema_fault s.tables raw) s (Creates s raw) (Created name) (record { tables = c.create.new.self; budget = kept.budget; last_log = kept.last_log })) c.session.view_is
    (inr (schema.ensures.checked.valid, record { schema = schema.schema; resolved = schema.ensures.checked.is; tables = c.in_ok-create.ensures.ok; others = refl; replies = ap Created c.in_ok-name.ensures }))
