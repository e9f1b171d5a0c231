-- Runs that go on from where they stand.
use Rattle.std.specs.Prelude.{◌≡◌, ℕ, Bool, List, ◌++◌}
use Rattle.script_lex.specs.Scripts.{Statement, Begins}
use Rattle.reply_text.specs.declared.reply.Reply.{Reply}
use Rattle.session_state.specs.State.{State}
use Rattle.command_shell.specs.Runs.{Run, RunsOver, CutShort, text_of}

-- A run over all of an input begins with these statements and these replies to them, and passes the state after them.
pub record RunsOn (old : State) (input : List ℕ) (ended : Bool) (statements : List Statement) (replies : List Reply) (mid : State) (all : List Reply) : Type 0 where
  pub new : State
  pub whole : RunsOver old input ended all new
  pub later : List Statement
  pub more : List Reply
  pub statements_are : whole.statements ≡ statements ++ later
  pub replies_are : whole.answered ≡ replies ++ more
  pub run : Run mid later more new

-- From this state the machine goes on: where some replies to the first statements of an input lead to it, a run over all of the input begins with these.
abbrev pub GoesOnFrom : State → Type 0
GoesOnFrom mid =
    (old : State) (input : List ℕ) (ended : Bool) (statements : List Statement) (rest : List ℕ) (replies : List Reply) → Begins ended input statements rest → Run old statements replies mid →
    (all : List Reply) × RunsOn old input ended statements replies mid all

-- What was written where answers were cut short begins the text of a run over all of the bytes, which have ended or not. This run passes the state in
-- which they stopped.
pub record BeginsRun {old : State} {bytes : List ℕ} {at_end : Type 0} {new : State} {written : List ℕ} (cut : CutShort old bytes at_end new written) (ended : Bool) : Type 0 where
  pub all : List Reply
  pub runs_on : RunsOn old bytes ended cut.statements cut.replies new all
  pub left : List ℕ
  pub begins : text_of all ≡ written ++ left
