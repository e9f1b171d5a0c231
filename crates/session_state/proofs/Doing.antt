-- How the rooms of the statements answer.
use Rattle.std.proofs.Common.{◌≡◌, inl, inr, ℕ, List, Option, Some, None, Result, Ok, Err, IsErrAnd, refl, sym, ap, subst}
use Rattle.std.specs.Option.{option_map_or}
use Rattle.cqa_value.specs.declared.memory.Fail.{Fail}
use Rattle.cqa_value.specs.declared.memory.Fail.TheVariants as fails
use Rattle.refusals.specs.declared.refusal.Refusal.{Refusal}
use Rattle.refusals.specs.declared.refusal.Refusal.TheVariants.{UnknownTable}
use Rattle.cqa_model.specs.Database.{Table}
use Rattle.refusals.specs.Refusal.{IsRefusedAs}
use Rattle.table_blocks.specs.Tables.{table_named}
use Rattle.reply_text.specs.declared.reply.Reply.{Reply}
use Rattle.reply_text.specs.declared.reply.Reply.TheVariants.{Refused}
use Rattle.session_state.specs.State.{State}
use Rattle.session_state.specs.Replying.{on_table, Replies, IsReplyOutcome}

-- ---- the ways out of a room

module _ (fault : Option Refusal) (old new : State) (May : Reply → State → Type 0) (keeps : new ≡ old) where
  -- a check failed, and no state was changed
  pub refused : (fail : Fail Refusal) → IsRefusedAs fail fault → IsReplyOutcome (Err fail) old (Replies fault old May) new
  refused fails.NoMemory is = keeps
  refused (fails.Refused refusal) is = inl (record { refusal = refusal; first = is; replies = refl; keeps = keeps })

  -- at the exit of a `?`
  pub refused_out : (result : Result Reply (Fail Refusal)) (fail : Fail Refusal) → IsErrAnd result (λ e. e ≡ fail) → IsRefusedAs fail fault → IsReplyOutcome result old (Replies fault old May) new
  refused_out (Ok reply) fail is cause = absurd is
  refused_out (Err e) fail is cause = subst (λ f. IsReplyOutcome (Err f) old (Replies fault old May) new) (sym is) (refused fail cause)

-- no check failed, and what may be answered then is answered
pub unrefused : (fault : Option Refusal) (old new : State) (May : Reply → State → Type 0) (result : Result Reply (Fail Refusal)) → fault ≡ None → IsReplyOutcome result old May new → IsReplyOutcome result old (Replies fault old May) new
unrefused fault old new May (Ok reply) valid may = inr (valid, may)
unrefused fault old new May (Err (fails.Refused refusal)) valid may = inr (valid, may)
unrefused fault old new May (Err fails.NoMemory) valid may = may

-- what may be answered, as what else may be
pub replied_as : (old new : State) (Told May : Reply → State → Type 0) (result : Result Reply (Fail Refusal)) → ((reply : Reply) → Told reply new → May reply new) → IsReplyOutcome result old Told new → IsReplyOutcome result old May new
replied_as old new Told May (Ok reply) turn told = turn reply told
replied_as old new Told May (Err (fails.Refused refusal)) turn told = turn (Refused refusal) told
replied_as old new Told May (Err fails.NoMemory) turn told = told

-- ---- the checks

pub on_table-there : (db : List Table) (name : List ℕ) (check : ℕ → Option Refusal) (table : ℕ) → table_named db name ≡ Some table → on_table db name check ≡ check table
on_table-there db name check table found = ap (λ o. option_map_or check o (Some (UnknownTable name))) found
