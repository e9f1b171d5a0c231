use Rattle.std.proofs.Common.{◌≡◌, ◌++◌, inr, None, refl, sym, ap, subst, ◌∙◌}
use Rattle.std.specs.Option.{option_copied}
use Rattle.refusals.specs.Refusal.{IsRefusedAs}
use Rattle.reply_text.specs.declared.reply.Reply.TheVariants.{Copied}
use Rattle.std.specs.List.Sorted.{IsStrictlySortedBy}
use Rattle.cqa_model.specs.Database.{block_cmp}
use Rattle.table_blocks.specs.Tables.{kinds_at}
use Rattle.csv_rows.proofs.Fitting.{rows_fit}
use Rattle.session_state.specs.State.{State}
use Rattle.session_state.specs.Replying.{Replies, IsReplyOutcome}
use Rattle.session_state.specs.Copy.{copy_into_fault, CopiesInto}
use Rattle.session_state.proofs.Copying.{bad_record, bad_rows}
use Rattle.session_state.proofs.Doing.{refused_out, on_table-there}
use Rattle.session_state.proofs.Valid.{AreNamed, state_of, named_in, named_with_rows}
use Rattle.session_state.proofs.copy.copy.Goals as goal

pub load-requires-clause-fits : goal.load-requires-clause-fits
load-requires-clause-fits c = rows_fit (kinds_at c.session.inside.database c.in_ok-table.table) 1 (c.in_ok-read.read.sorted ++ c.in_ok-read.read.rest.items) (λ row m. c.in_ok-read.ensures.fits row m ∙ c.schema.ensures.kinds)

pub load-requires-clause-ascending : goal.load-requires-clause-ascending
load-requires-clause-ascending c = subst (λ key. IsStrictlySortedBy (block_cmp key) c.in_ok-read.read.sorted) c.schema.ensures.key c.in_ok-read.ensures.ascending

pub invariant_of-session : goal.invariant_of-session
invariant_of-session c =
    let kept = c.session.inside in
    state_of c.load.new.db kept.budget kept.last_log c.load.ensures.stored (subst AreNamed (sym c.in_err-count.ensures.err) (named_in kept.database c.session.invariant.valid)) c.session.invariant.budget

pub invariant_of-session-2 : goal.invariant_of-session-2
invariant_of-session-2 c =
    let kept = c.session.inside in
    let inserted = c.in_ok-count.ensures.inserted in
    let named = named_with_rows kept.database c.in_ok-table.table inserted.rows (named_in kept.database c.session.invariant.valid) in
    state_of c.load.new.db kept.budget kept.last_log c.load.ensures.stored (subst AreNamed (sym inserted.changed) named) c.session.invariant.budget

pub returns-in_err-table : goal.returns-in_err-table
returns-in_err-table c =
    let old = c.args.session.now in
    let name = c.args.name.now in
    let fail = c.in_err-table.field-0.0 in
    let missing = c.in_err-table.ensures.missing (λ table. None) in
    refused_out (copy_into_fault old.tables name) old old (CopiesInto old name (option_copied c.args.block)) refl c.from_residual.result fail c.from_residual.ensures.1
    (subst (λ (s : State). IsRefusedAs fail (copy_into_fault s.tables name)) c.session.view_is missing)

pub returns-in_err-read : goal.returns-in_err-read
returns-in_err-read c =
    let name = c.args.name.now in
    let block = option_copied c.args.block in
    let kept = c.session.inside in
    let inside : State = record { tables = kept.database; budget = kept.budget; last_log = kept.last_log } in
    let fail = c.in_err-read.field-0.0 in
    let refused = rw (c.schema.ensures.kinds, c.bytes_of.ensures) at c.in_err-read.ensures.refused in
    subst (λ (s : State). IsReplyOutcome c.from_residual-in_err-read.result s (Replies (copy_into_fault s.tables name) s (CopiesInto s name block)) s) c.session.view_is
    (bad_record inside inside name block c.in_ok-table.table c.in_ok-table.ensures.found refl c.from_residual-in_err-read.result fail c.from_residual-in_err-read.ensures.1 refused)

pub returns-in_err-count : goal.returns-in_err-count
returns-in_err-count c =
    let name = c.args.name.now in
    let block = option_copied c.args.block in
    let kept = c.session.inside in
    let inside : State = record { tables = kept.database; budget = kept.budget; last_log = kept.last_log } in
    let new : State = record { tables = c.load.new.db; budget = kept.budget; last_log = kept.last_log } in
    let fail = c.in_err-count.field-0.0 in
    let held = rw (c.schema.ensures.kinds, c.bytes_of.ensures) at c.in_ok-read.ensures.rows in
    let keeps : new ≡ inside = ap (λ tables. record { tables = tables; budget = kept.budget; last_log = kept.last_log }) c.in_err-count.ensures.err in
    subst (λ (s : State). IsReplyOutcome c.from_residual-in_err-count.result s (Replies (copy_into_fault s.tables name) s (CopiesInto s name block)) new) c.session.view_is
    (bad_rows inside new name block c.in_ok-table.table c.in_ok-table.ensures.found keeps (c.in_ok-read.read.sorted ++ c.in_ok-read.read.rest.items) held c.from_residual-in_err-count.result fail c.from_residual-in_err-count.ensures.1 c.in_err-count.ensures.refused)

pub returns : goal.returns
returns c =
    let name = c.args.name.now in
    let block = option_copied c.args.block in
    let kept = c.session.inside in
    let table = c.in_ok-table in
    let count = c.in_ok-count.count in
    let held = rw (c.schema.ensures.kinds, c.bytes_of.ensures) at c.in_ok-read.ensures.rows in
    subst (λ (s : State). Replies (copy_into_fault s.tables name) s (CopiesInto s name block) (Copied count) (record { tables = c.load.new.db; budget = kept.budget; last_log = kept.last_log })) c.session.view_is
    (inr (
      on_table-there kept.database name (λ at. None) table.table table.ensures.found,
      record {
        table = table.table;
        found = table.ensures.found;
        told = record { rows = (c.in_ok-read.read.sorted ++ c.in_ok-read.read.rest.items); held = held; valid = c.in_ok-count.ensures.valid; tables = c.in_ok-count.ensures.inserted; others = refl };
      },
    ))
