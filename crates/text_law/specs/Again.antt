-- A dump that is run again.
use Rattle.std.specs.Prelude.{◌≡◌, ℕ, Bool, true, false, List, []}
use Rattle.reply_text.specs.declared.reply.Reply.{Reply}
use Rattle.csv_rows.specs.Dumps.{dump_text}
use Rattle.session_state.specs.State.{State, IsState}
use Rattle.command_shell.specs.Runs.{RunsOver, has_refusal, Answers}

-- The script that `dump` answers in a state is run as an ended input, from another state. The machine may run it; and whatever it replies on the way,
-- it refuses nothing, and the tables are those of the dumped state.
pub record RunsAgain (dumped old : State) : Type 0 where
  pub may : (replies : List Reply) × (new : State) × RunsOver old (dump_text dumped.tables) true replies new
  pub only : (replies : List Reply) (new : State) → RunsOver old (dump_text dumped.tables) true replies new → (has_refusal replies ≡ false) × (new ≡ record old { tables = dumped.tables })

-- The law: a dump, run from a state without tables, makes the same tables: their names, columns, keys, marks and rows.
abbrev pub DumpRunsAgain : Type 0
DumpRunsAgain = (dumped old : State) → IsState dumped → old.tables ≡ [] → RunsAgain dumped old

-- The law, in the words of a call's answer: a call whose input is a dump ends without a refusal, and with the same tables.
abbrev pub DumpAnswersAgain : Type 0
DumpAnswersAgain = (dumped old new : State) (written : List ℕ) (refused : Bool) → IsState dumped → old.tables ≡ []
    → Answers old (dump_text dumped.tables) true new written refused → (refused ≡ false) × (new.tables ≡ dumped.tables)
