-- How a block is refused.
use Rattle.std.proofs.Common.{◌≡◌, inl, inr, ℕ, List, Option, Some, None, Result, Ok, Err, IsErrAnd, sym, subst}
use Rattle.cqa_value.specs.declared.memory.Fail.{Fail}
use Rattle.cqa_value.specs.declared.memory.Fail.TheVariants as fails
use Rattle.cqa_value.specs.declared.value.Value.{Value}
use Rattle.refusals.specs.declared.refusal.Refusal.{Refusal}
use Rattle.refusals.specs.Refusal.{IsRefusedAs}
use Rattle.table_blocks.specs.Tables.{table_named, kinds_at}
use Rattle.table_changes.specs.Changes.{insert_fault}
use Rattle.csv_rows.specs.Blocks.{HoldsRows, IsRefusedRecord}
use Rattle.reply_text.specs.declared.reply.Reply.{Reply}
use Rattle.session_state.specs.State.{State}
use Rattle.session_state.specs.Replying.{Replies, IsReplyOutcome}
use Rattle.session_state.specs.Copy.{block_bytes, copy_into_fault, CopiesInto}
use Rattle.session_state.proofs.Doing.{on_table-there}

module _ (old new : State) (name : List ℕ) (block : Option (List ℕ)) (table : ℕ) (found : table_named old.tables name ≡ Some table) (keeps : new ≡ old) where
  -- what the statement may answer
  abbrev May : Reply → State → Type 0
  May reply state = Replies (copy_into_fault old.tables name) old (CopiesInto old name block) reply state

  there : copy_into_fault old.tables name ≡ None
  there = on_table-there old.tables name (λ at. None) table found

  by_record : (fail : Fail Refusal) → IsRefusedRecord (kinds_at old.tables table) (block_bytes block) fail → IsReplyOutcome (Err fail) old May new
  by_record fails.NoMemory refused = keeps
  by_record (fails.Refused refusal) refused = inr (there, record { table = table; found = found; told = (inl (record { number = refused.0; first = refused.2; is = refused.1 }), keeps) })

  -- a record is no row
  pub bad_record : (result : Result Reply (Fail Refusal)) (fail : Fail Refusal) → IsErrAnd result (λ e. e ≡ fail) → IsRefusedRecord (kinds_at old.tables table) (block_bytes block) fail → IsReplyOutcome result old May new
  bad_record (Ok reply) fail is refused = absurd is
  bad_record (Err e) fail is refused = subst (λ f. IsReplyOutcome (Err f) old May new) (sym is) (by_record fail refused)

  by_rows : (rows : List (List Value)) → HoldsRows (kinds_at old.tables table) (block_bytes block) rows → (fail : Fail Refusal) → IsRefusedAs fail (insert_fault old.tables table rows) → IsReplyOutcome (Err fail) old May new
  by_rows rows held fails.NoMemory refused = keeps
  by_rows rows held (fails.Refused refusal) refused = inr (there, record { table = table; found = found; told = (inr (record { rows = rows; held = held; first = refused }), keeps) })

  -- a check of the rows fails
  pub bad_rows : (rows : List (List Value)) → HoldsRows (kinds_at old.tables table) (block_bytes block) rows → (result : Result Reply (Fail Refusal)) (fail : Fail Refusal) → IsErrAnd result (λ e. e ≡ fail)
      → IsRefusedAs fail (insert_fault old.tables table rows) → IsReplyOutcome result old May new
  bad_rows rows held (Ok reply) fail is refused = absurd is
  bad_rows rows held (Err e) fail is refused = subst (λ f. IsReplyOutcome (Err f) old May new) (sym is) (by_rows rows held fail refused)
