-- `dump`
use Rattle.std.specs.Prelude.{◌≡◌}
use Rattle.csv_rows.specs.Dumps.{dump_text}
use Rattle.reply_text.specs.declared.reply.Reply.{Reply}
use Rattle.reply_text.specs.declared.reply.Reply.TheVariants.{Dumped}
use Rattle.session_state.specs.State.{State}

-- The reply is the script that makes the tables with their rows.
pub record Dumps (state : State) (reply : Reply) (new : State) : Type 0 where
  pub replies : reply ≡ Dumped (dump_text state.tables)
  pub keeps : new ≡ state
