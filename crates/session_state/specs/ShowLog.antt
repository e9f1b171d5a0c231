-- `show log`
use Rattle.std.specs.Prelude.{◌≡◌, Option, Some, None}
use Rattle.reply_text.specs.declared.reply.Proof.{Proof}
use Rattle.reply_text.specs.declared.reply.Reply.{Reply}
use Rattle.reply_text.specs.declared.reply.Reply.TheVariants.{KeptLog, NoLog}
use Rattle.session_state.specs.State.{State}

-- the reply to what is kept
abbrev pub kept_reply : Option Proof → Reply
kept_reply (Some proof) = KeptLog proof
kept_reply None = NoLog

-- The reply is the log that was kept last with its formula, or that there is none.
pub record ShowsLog (state : State) (reply : Reply) (new : State) : Type 0 where
  pub replies : reply ≡ kept_reply state.last_log
  pub keeps : new ≡ state
