-- What each status of the top call says, for each command.
use Rattle.std.specs.Prelude.{◌≡◌, ◌⊎◌, ℕ, ◌+◌, ◌≤◌, Bool, true, false, List, [], ◌∷◌, length, map, take, Option, None, Some, codes, string_bytes, String}
use Rattle.std.specs.Io.KnownBytes.{Consumes, Appends, IsAtEnd}
use Rattle.std.specs.declared.alloc.Global.{Global}
use Rattle.cqa_io.specs.Causes.{Rose}
use Rattle.input_check.specs.Verdicts.{IsVerdict, BeginsVerdict}
use Rattle.command_shell.specs.declared.ending.Command.{Command}
use Rattle.command_shell.specs.declared.ending.Command.TheVariants.{Run, Check, Demo, Judge}
use Rattle.command_shell.specs.declared.ending.Ending.{Ending}
use Rattle.command_shell.specs.declared.ending.Ending.TheVariants.{Answered, WithRefusal, BadWords, ReadFault, WriteFault, OutOfMemory, TooLong}
use Rattle.session_state.specs.State.{State}
use Rattle.cqa_model.specs.declared.limits.TheConstants.{LONGEST_INPUT}
use Rattle.case_maker.specs.Scripts.{script_bytes}
use Rattle.command_shell.specs.Runs.{Answers, CutShort}
use Rattle.command_shell.specs.GoingOn.{BeginsRun}
use Rattle.group_text.specs.declared.wanted.Wanted.{Wanted}
use Rattle.group_stream.specs.declared.ending.TheConstants.{MOST_JUDGED}
use Rattle.group_stream.specs.Judges.{BeginsReplies, Judges}
use Rattle.command_shell.specs.Judging.{HaveBudget, judge_words, usual_budget}
use Rattle.command_shell.specs.Demo.{IsSize, IsDemo, BeginsDemo, BreaksOffIn}

-- the most bytes of input that a call answers
abbrev pub limit : ℕ
limit = LONGEST_INPUT

-- the words that stand for a command: `run` or `check` alone, `demo` and a size, or `judge`, which `reasons` or `ranges` and a budget may follow
abbrev pub StandFor : List (List ℕ) → Command → Type 0
StandFor words Run = words ≡ codes "run" ∷ []
StandFor words Check = words ≡ codes "check" ∷ []
StandFor words (Demo size) = (digits : List ℕ) × (words ≡ codes "demo" ∷ digits ∷ []) × IsSize digits size
StandFor words (Judge wanted budget) = HaveBudget (judge_words wanted) (usual_budget wanted) words budget

abbrev pub AreWordsFor : List (String Global) → Command → Type 0
AreWordsFor words command = StandFor (map string_bytes words) command

-- the command that the words ask for; where they ask for none they aren't accepted
abbrev pub IsAskedBy : List (String Global) → Option Command → Type 0
IsAskedBy words (Some command) = AreWordsFor words command
IsAskedBy words None = (command : Command) → AreWordsFor words command → ⊥

-- the number that the process ends with
abbrev pub code_of : Ending → ℕ
code_of Answered = 0
code_of WithRefusal = 1
code_of BadWords = 2
code_of ReadFault = 3
code_of WriteFault = 4
code_of OutOfMemory = 5
code_of TooLong = 6

-- what the source and the sink tell, and their counts of faults
pub record Outside : Type 0 where
  pub left : Option (List ℕ)
  pub held : Option (List ℕ)
  pub reads : ℕ
  pub writes : ℕ

-- what a source and a sink tell, as one
abbrev pub told : (left held : Option (List ℕ)) (reads writes : ℕ) → Outside
told left held reads writes = record { left = left; held = held; reads = reads; writes = writes }

-- What a call did: the outside before and after it, the bytes that came, those that were written, and the state before and after.
pub record Call : Type 0 where
  pub before : Outside
  pub after : Outside
  pub came : List ℕ
  pub written : List ℕ
  pub old : State
  pub new : State

-- the source has nothing left
abbrev pub IsReadToEnd : Call → Type 0
IsReadToEnd call = IsAtEnd call.after.left

-- a fault of reading was counted in the call
abbrev pub CountsReadFault : Call → Type 0
CountsReadFault call = Rose call.before.reads call.after.reads

-- a fault of writing was counted in the call
abbrev pub CountsWriteFault : Call → Type 0
CountsWriteFault call = Rose call.before.writes call.after.writes

-- the bytes that came within the limit; one past it is looked at by nobody
abbrev pub within_limit : Call → List ℕ
within_limit call = take limit call.came

-- the source has nothing left, and no byte past the limit came
abbrev pub IsAllRead : Call → Type 0
IsAllRead call = IsReadToEnd call × (length call.came ≤ limit)

-- The answers to the bytes within the limit were cut short, and what was written begins the text of a run over all of these bytes: of one over them as
-- they were cut, and of one over them as an input that has ended.
pub record BreaksOff (call : Call) : Type 0 where
  pub cut : CutShort call.old (within_limit call) (IsAllRead call) call.new call.written
  pub whole : BeginsRun cut cut.ended
  pub ended : BeginsRun cut true

-- The row of each ending of `run`.
abbrev pub RunRow : Ending → Call → Type 0
RunRow Answered call = IsReadToEnd call × (length call.came ≤ limit) × Answers call.old call.came true call.new call.written false
RunRow WithRefusal call = IsReadToEnd call × (length call.came ≤ limit) × Answers call.old call.came true call.new call.written true
RunRow BadWords call = ⊥
RunRow ReadFault call = CountsReadFault call × (length call.came ≤ limit) × ((refused : Bool) × Answers call.old call.came false call.new call.written refused)
RunRow WriteFault call = CountsWriteFault call × (length call.came ≤ limit + 1) × BreaksOff call
RunRow OutOfMemory call = (length call.came ≤ limit + 1) × BreaksOff call
RunRow TooLong call = (length call.came ≡ limit + 1) × ((refused : Bool) × Answers call.old (within_limit call) false call.new call.written refused)

-- The row of each ending of `check`.
abbrev pub CheckRow : Ending → Call → Type 0
CheckRow Answered call = IsReadToEnd call × (length call.came ≤ limit) × IsVerdict call.came true call.written
CheckRow WithRefusal call = IsReadToEnd call × (length call.came ≤ limit) × IsVerdict call.came false call.written
CheckRow BadWords call = ⊥
CheckRow ReadFault call = CountsReadFault call × (length call.came ≤ limit) × (call.written ≡ [])
CheckRow WriteFault call = CountsWriteFault call × IsReadToEnd call × (length call.came ≤ limit) × BeginsVerdict call.came call.written
CheckRow OutOfMemory call = (length call.came ≤ limit + 1) × (call.written ≡ [])
CheckRow TooLong call = (length call.came ≡ limit + 1) × (call.written ≡ [])

-- nothing came, and no fault of reading was counted
abbrev pub IsUnread : Call → Type 0
IsUnread call = (call.came ≡ []) × (call.after.reads ≡ call.before.reads)

-- The row of each ending of `demo` and a size: the source isn't read, and the statements of the script are run in the session.
abbrev pub DemoRow : ℕ → Ending → Call → Type 0
DemoRow size Answered call = IsUnread call × IsDemo size call.old call.written false call.new
DemoRow size WithRefusal call = IsUnread call × IsDemo size call.old call.written true call.new
DemoRow size BadWords call = ⊥
DemoRow size ReadFault call = ⊥
DemoRow size WriteFault call = IsUnread call × CountsWriteFault call × BeginsDemo size call.old call.written call.new
DemoRow size OutOfMemory call = IsUnread call × (call.written ≡ []) × BreaksOffIn call.old (script_bytes size) call.new
DemoRow size TooLong call = ⊥

-- The replies to the bytes within the limit were cut short, and what was written begins the replies to all of these bytes: to them as they were taken,
-- which is for an input that has ended only where they are one, and to them as an input that has ended.
pub record JudgingBreaksOff (wanted : Wanted) (budget : ℕ) (call : Call) : Type 0 where
  pub taken : Bool
  pub is_end : taken ≡ true → IsReadToEnd call × (length call.came ≤ MOST_JUDGED)
  pub whole : BeginsReplies wanted budget (take MOST_JUDGED call.came) taken call.written
  pub ended : BeginsReplies wanted budget (take MOST_JUDGED call.came) true call.written

-- The row of each ending of `judge`, for what is wanted of each group, by a budget for each search.
abbrev pub JudgeRow : Wanted → ℕ → Ending → Call → Type 0
JudgeRow wanted budget Answered call = IsReadToEnd call × (length call.came ≤ MOST_JUDGED) × Judges wanted budget call.came true call.written false
JudgeRow wanted budget WithRefusal call = IsReadToEnd call × (length call.came ≤ MOST_JUDGED) × Judges wanted budget call.came true call.written true
JudgeRow wanted budget BadWords call = ⊥
JudgeRow wanted budget ReadFault call = CountsReadFault call × (length call.came ≤ MOST_JUDGED) × ((refused : Bool) × Judges wanted budget call.came false call.written refused)
JudgeRow wanted budget WriteFault call = CountsWriteFault call × (length call.came ≤ MOST_JUDGED + 1) × JudgingBreaksOff wanted budget call
JudgeRow wanted budget OutOfMemory call = (length call.came ≤ MOST_JUDGED + 1) × JudgingBreaksOff wanted budget call
JudgeRow wanted budget TooLong call = (length call.came ≡ MOST_JUDGED + 1) × ((refused : Bool) × Judges wanted budget (take MOST_JUDGED call.came) false call.written refused)

-- Words that aren't accepted: nothing is read or written, and no fault is counted.
abbrev pub BadWordsRow : Ending → Call → Type 0
BadWordsRow ending call = (ending ≡ BadWords) × (call.came ≡ []) × (call.written ≡ []) × (call.after.reads ≡ call.before.reads) × (call.after.writes ≡ call.before.writes)

-- The row of each ending for the command that the words are. Only `run` and `demo` change the session.
abbrev pub Row : Option Command → Ending → Call → Type 0
Row (Some Run) ending call = RunRow ending call
Row (Some Check) ending call = CheckRow ending call × (call.new ≡ call.old)
Row (Some (Demo size)) ending call = DemoRow size ending call
Row (Some (Judge wanted budget)) ending call = JudgeRow wanted budget ending call × (call.new ≡ call.old)
Row None ending call = BadWordsRow ending call × (call.new ≡ call.old)

-- The call ended so: with the bytes that came and those that were written, where they are told.
pub record Ended (command : Option Command) (ending : Ending) (before after : Outside) (old new : State) : Type 0 where
  pub came : List ℕ
  pub written : List ℕ
  pub took : Consumes before.left after.left came
  pub put : Appends before.held after.held written
  pub row : Row command ending (record { before = before; after = after; came = came; written = written; old = old; new = new })

-- the source tells what is left, and that this isn't too long
abbrev pub IsWithinLimit : Option (List ℕ) → Type 0
IsWithinLimit None = ⊥
IsWithinLimit (Some bytes) = length bytes ≤ limit

-- all was answered, or memory ran out
abbrev pub IsCompleted : ℕ → Type 0
IsCompleted status = (status ≡ 0) ⊎ (status ≡ 1) ⊎ (status ≡ 5)
