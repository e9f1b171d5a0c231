-- How a statement is replied to: by the refusal of the first of its checks that fails, or by what it does where none fails.
use Rattle.std.specs.Prelude.{◌≡◌, ◌⊎◌, ℕ, List, Option, Some, None, Result, Ok, Err}
use Rattle.std.specs.Option.{option_map_or}
use Rattle.cqa_value.specs.declared.memory.Fail.{Fail}
use Rattle.cqa_value.specs.declared.memory.Fail.TheVariants as fails
use Rattle.cqa_model.specs.Database.{Table}
use Rattle.refusals.specs.declared.refusal.Refusal.{Refusal}
use Rattle.refusals.specs.declared.refusal.Refusal.TheVariants.{UnknownTable}
use Rattle.table_blocks.specs.Tables.{table_named}
use Rattle.reply_text.specs.declared.reply.Reply.{Reply}
use Rattle.reply_text.specs.declared.reply.Reply.TheVariants.{Refused}
use Rattle.session_state.specs.State.{State}

-- a check of the table with a name, which has to be there
abbrev pub on_table : List Table → List ℕ → (ℕ → Option Refusal) → Option Refusal
on_table db name check = option_map_or check (table_named db name) (Some (UnknownTable name))

-- The reply is the refusal by the check that fails, and nothing has changed.
pub record Refuses (fault : Option Refusal) (old : State) (reply : Reply) (new : State) : Type 0 where
  pub refusal : Refusal
  pub first : fault ≡ Some refusal
  pub replies : reply ≡ Refused refusal
  pub keeps : new ≡ old

-- A statement is refused by the first of its checks that fails, or else may do this. What it may do can be a refusal too.
abbrev pub Replies : Option Refusal → State → (Reply → State → Type 0) → Reply → State → Type 0
Replies fault old May reply new = Refuses fault old reply new ⊎ ((fault ≡ None) × May reply new)

-- What a call answers is a reply that may be given, or a refusal that may be given as one; want of memory is free, and changes nothing.
abbrev pub IsReplyOutcome : Result Reply (Fail Refusal) → State → (Reply → State → Type 0) → State → Type 0
IsReplyOutcome (Ok reply) old May new = May reply new
IsReplyOutcome (Err (fails.Refused refusal)) old May new = May (Refused refusal) new
IsReplyOutcome (Err fails.NoMemory) old May new = new ≡ old
