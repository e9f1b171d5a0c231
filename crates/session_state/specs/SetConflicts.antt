-- `set conflicts`
use Rattle.std.specs.Prelude.{◌≡◌, ℕ}
use Rattle.reply_text.specs.declared.reply.Reply.{Reply}
use Rattle.reply_text.specs.declared.reply.Reply.TheVariants.{Conflicts}
use Rattle.session_state.specs.State.{State}

-- The budget is the number; nothing else has changed.
pub record SetsConflicts (old : State) (conflicts : ℕ) (reply : Reply) (new : State) : Type 0 where
  pub budget : new ≡ record old { budget = conflicts }
  pub replies : reply ≡ Conflicts conflicts
