-- What each part of the top call does.
use Rattle.std.specs.Prelude.{◌≡◌, ◌⊎◌, ℕ, ◌+◌, ◌≤◌, ◌||◌, if◌then◌else◌, Bool, true, false, List, [], length, take, Option, Result, Ok, Err, OnOk}
use Rattle.std.specs.Io.KnownBytes.{Appends, Keeps}
use Rattle.script_lex.specs.Scripts.{Statement}
use Rattle.reply_text.specs.declared.reply.Reply.{Reply}
use Rattle.reply_text.specs.declared.reply.Reply.TheVariants.{Refused}
use Rattle.reply_text.specs.Texts.{reply_text, is_refusal}
use Rattle.refusals.specs.declared.refusal.Refusal.TheVariants.{Unfinished}
use Rattle.command_shell.specs.declared.ending.ReadEnd.{ReadEnd}
use Rattle.command_shell.specs.declared.ending.ReadEnd.TheVariants as reading
use Rattle.command_shell.specs.declared.ending.Stop.{Stop}
use Rattle.command_shell.specs.declared.ending.Stop.TheVariants as stops
use Rattle.command_shell.specs.declared.ending.Ending.{Ending}
use Rattle.command_shell.specs.declared.ending.Ending.TheVariants as endings
use Rattle.input_check.specs.Verdicts.{IsVerdict, BeginsVerdict}
use Rattle.session_state.specs.State.{State}
use Rattle.command_shell.specs.Machine.{Step}
use Rattle.command_shell.specs.Runs.{CutShort}
use Rattle.command_shell.specs.Top.{limit}
use Rattle.command_shell.specs.Taking.{HandsAnswers}

-- how the reading ended: with these bytes
abbrev pub ReadRow : ReadEnd → (at_end rose : Type 0) → (came input : List ℕ) → Type 0
ReadRow reading.End at_end rose came input = (input ≡ came) × at_end × (length came ≤ limit)
ReadRow reading.Fault at_end rose came input = (input ≡ came) × rose × (length came ≤ limit)
ReadRow reading.TooLong at_end rose came input = (input ≡ came) × (length came ≡ limit + 1)
ReadRow reading.OutOfMemory at_end rose came input = length came ≤ limit + 1

-- how the top call ends where the answers stopped
abbrev pub ending_of : Stop → Ending
ending_of stops.WriteFault = endings.WriteFault
ending_of stops.OutOfMemory = endings.OutOfMemory

-- how a run ends whose last answers ended so, where something may have been refused before them
abbrev pub ending_with : Result Bool Stop → (refused : Bool) → Ending
ending_with (Ok more) refused = if refused || more then endings.WithRefusal else endings.Answered
ending_with (Err stop) refused = ending_of stop

-- how some bytes were written, with what is answered where all of them were
abbrev pub WriteRow : Result Bool Stop → (rose : Type 0) → (held_old held_new : Option (List ℕ)) → List ℕ → Bool → Type 0
WriteRow (Ok answer) rose held_old held_new bytes said = Appends held_old held_new bytes × (answer ≡ said)
WriteRow (Err stops.WriteFault) rose held_old held_new bytes said = rose × ((n : ℕ) × Appends held_old held_new (take n bytes))
WriteRow (Err stops.OutOfMemory) rose held_old held_new bytes said = Keeps held_old held_new

-- how a reply was written, with whether it is a refusal
abbrev pub ReplyRow : Result Bool Stop → (rose : Type 0) → (held_old held_new : Option (List ℕ)) → Reply → Type 0
ReplyRow result rose held_old held_new reply = WriteRow result rose held_old held_new (reply_text reply) (is_refusal reply)

-- how what is left at the end was answered
abbrev pub CloseRow : {Taker : Type 0} (took : Taker → List ℕ → Reply → Taker → Type 0) → Taker → Taker → Result Bool Stop → (rose : Type 0) → (held_old held_new : Option (List ℕ)) → Bool → Bool → Type 0
CloseRow took taker_old taker_new result rose held_old held_new false refused = (result ≡ Ok refused) × Keeps held_old held_new × (taker_new ≡ taker_old)
CloseRow took taker_old taker_new result rose held_old held_new true refused = ReplyRow result rose held_old held_new (Refused Unfinished) × OnOk result (took taker_old [] (Refused Unfinished) taker_new)

-- how one statement was answered
abbrev pub AnswerRow : {Taker : Type 0} (took : Taker → List ℕ → Reply → Taker → Type 0) → Taker → Taker → Result Bool Stop → (rose : Type 0) → (held_old held_new : Option (List ℕ)) → State → Statement → State → Type 0
AnswerRow took taker_old taker_new (Ok refused) rose held_old held_new old s new = (reply : Reply) × Step old s.0 s.1 reply new × Appends held_old held_new (reply_text reply) × (refused ≡ is_refusal reply) × took taker_old s.0 reply taker_new
AnswerRow took taker_old taker_new (Err stops.WriteFault) rose held_old held_new old s new = rose × ((reply : Reply) × (n : ℕ) × Step old s.0 s.1 reply new × Appends held_old held_new (take n (reply_text reply)))
AnswerRow took taker_old taker_new (Err stops.OutOfMemory) rose held_old held_new old s new = ((new ≡ old) ⊎ ((reply : Reply) × Step old s.0 s.1 reply new)) × Keeps held_old held_new

-- How the statements of some bytes were answered, and the rest of the bytes that stands behind them.
abbrev pub ProgressRow : {Taker : Type 0} (took : Taker → List ℕ → Reply → Taker → Type 0) → Taker → Taker → Result Bool Stop → (rose : Type 0) → (held_old held_new : Option (List ℕ)) → State → List ℕ → Bool → State → List ℕ → Type 0
ProgressRow took taker_old taker_new (Ok refused) rose held_old held_new old bytes ended new rest = (written : List ℕ) × Appends held_old held_new written × HandsAnswers took taker_old taker_new old bytes ended new written refused rest
ProgressRow took taker_old taker_new (Err stops.WriteFault) rose held_old held_new old bytes ended new rest = rose × ((written : List ℕ) × Appends held_old held_new written × CutShort old bytes (ended ≡ true) new written)
ProgressRow took taker_old taker_new (Err stops.OutOfMemory) rose held_old held_new old bytes ended new rest = (written : List ℕ) × Appends held_old held_new written × CutShort old bytes (ended ≡ true) new written

-- how the line of `check` on an input was written
abbrev pub VerdictRow : Result Bool Stop → (rose : Type 0) → (held_old held_new : Option (List ℕ)) → List ℕ → Type 0
VerdictRow (Ok verified) rose held_old held_new input = (written : List ℕ) × Appends held_old held_new written × IsVerdict input verified written
VerdictRow (Err stops.WriteFault) rose held_old held_new input = rose × ((written : List ℕ) × Appends held_old held_new written × BeginsVerdict input written)
VerdictRow (Err stops.OutOfMemory) rose held_old held_new input = Keeps held_old held_new
