-- The machine always goes on.
use Rattle.std.specs.Prelude.{◌≡◌, ⊤, ℕ, Bool, true, List, Option}
use Rattle.script_lex.specs.Scripts.{Statement}
use Rattle.reply_text.specs.declared.reply.Reply.{Reply}
use Rattle.session_state.specs.State.{State, IsState}
use Rattle.command_shell.specs.Machine.{Step}
use Rattle.command_shell.specs.Runs.{Run, RunsOver, CutShort}
use Rattle.command_shell.specs.Changing.{GoesOnTo}
use Rattle.command_shell.specs.GoingOn.{GoesOnFrom, BeginsRun}

-- The law: from each valid state, for each text and each block, there are a reply and a valid state such that the machine may give this reply
-- and go on to this state.
abbrev pub StepsGoOn : Type 0
StepsGoOn = (old : State) (text : List ℕ) (block : Option (List ℕ)) → IsState old → GoesOnTo (Step old text block)

-- The law: from each valid state, for some statements one after another, there are replies and a valid state such that the machine may give
-- these replies and go on to this state.
abbrev pub RunsGoOn : Type 0
RunsGoOn = (old : State) (statements : List Statement) → IsState old → (replies : List Reply) × (new : State) × (Run old statements replies new × IsState new)

-- The law: from each valid state, over each input, whether it has ended or not, there is a run to a valid state.
abbrev pub InputsAreRun : Type 0
InputsAreRun = (old : State) (input : List ℕ) (ended : Bool) → IsState old → (replies : List Reply) × (new : State) × (RunsOver old input ended replies new × IsState new)

-- The law: from each valid state the machine goes on to the end of the input of which some statements have led to it.
abbrev pub StatesGoOn : Type 0
StatesGoOn = (state : State) → IsState state → GoesOnFrom state

-- The law: where answers were cut short in a valid state, what was written begins the text of a run over all of the bytes: of one over them as an
-- input that has ended, and, where they weren't taken for one, of one over them as an input that hasn't.
abbrev pub WrittenBeginsRuns : Type 0
WrittenBeginsRuns = (old new : State) (bytes written : List ℕ) (cut : CutShort old bytes ⊤ new written) → IsState new → (ended : Bool) → (cut.ended ≡ true → ended ≡ true) → BeginsRun cut ended
