-- How the numbers of a run's replies go on.
use Rattle.std.specs.Prelude.{◌≡◌, ℕ, ◌+◌, Bool, if◌then◌else◌, List, Option, Result, Ok, Err, codes}
use Rattle.cqa_value.specs.declared.memory.NoMemory.{NoMemory}
use Rattle.reply_text.specs.declared.reply.Reply.{Reply}
use Rattle.reply_text.specs.Texts.{is_refusal}
use Rattle.command_shell.specs.declared.tally.Tally.{Tally}
use Rattle.session_state.specs.State.{State}
use Rattle.command_shell.specs.declared.ending.Stop.{Stop}
use Rattle.command_shell.specs.declared.ending.Stop.TheVariants as stops
use Rattle.command_shell.specs.Demo.{rows_after, AnswersAll, StopsIn, IsDemo, BeginsDemo}
use Rattle.case_maker.specs.Scripts.{script_bytes}
use Rattle.std.specs.Io.KnownBytes.{Appends, Keeps}

-- one reply more, to a statement of this text
pub record AddsReply (before : Tally) (text : List ℕ) (reply : Reply) (now : Tally) : Type 0 where
  pub replied : now.replies ≡ before.replies + 1
  pub certain : now.certain ≡ before.certain + rows_after (codes "ask ") text reply
  pub possible : now.possible ≡ before.possible + rows_after (codes "possible ") text reply
  pub refused : now.refused ≡ before.refused + (if is_refusal reply then 1 else 0)

-- an input that has ended was answered, and these are the numbers of its replies
abbrev pub InputRow : Result Tally NoMemory → State → List ℕ → State → Type 0
InputRow (Ok tally) old input new = AnswersAll old input tally new
InputRow (Err fault) old input new = StopsIn old input new

-- how the script of a size was run and its line written, with whether a reply is a refusal
abbrev pub LineRow : Result Bool Stop → (rose : Type 0) → (held_old held_new : Option (List ℕ)) → ℕ → State → State → Type 0
LineRow (Ok refused) rose held_old held_new size old new = (line : List ℕ) × Appends held_old held_new line × IsDemo size old line refused new
LineRow (Err stops.WriteFault) rose held_old held_new size old new = rose × ((written : List ℕ) × Appends held_old held_new written × BeginsDemo size old written new)
LineRow (Err stops.OutOfMemory) rose held_old held_new size old new = Keeps held_old held_new × StopsIn old (script_bytes size) new
