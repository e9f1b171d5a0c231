-- What `demo` does: it runs the script of a size, and tells the numbers of the run.
use Rattle.std.specs.Prelude.{◌≡◌, ℕ, ◌+◌, ◌≤◌, Bool, true, if◌then◌else◌, List, [], ◌∷◌, ◌++◌, length, Some, codes, nat_eq, pos}
use Rattle.std.specs.Fmt.{decimal}
use Rattle.std.specs.List.{starts_with}
use Rattle.cqa_value.specs.Literals.{int_of}
use Rattle.cqa_model.specs.Database.{row_total}
use Rattle.script_lex.specs.Scripts.{Statement, Begins}
use Rattle.case_maker.specs.Scripts.{script_bytes}
use Rattle.case_maker.specs.declared.script.TheConstants.{GREATEST_SIZE}
use Rattle.reply_text.specs.declared.reply.Reply.{Reply}
use Rattle.reply_text.specs.declared.reply.Reply.TheVariants.{Rows}
use Rattle.reply_text.specs.Texts.{is_refusal}
use Rattle.command_shell.specs.declared.tally.Tally.{Tally}
use Rattle.session_state.specs.State.{State}
use Rattle.command_shell.specs.Runs.{Run, RunsOver, has_refusal}
use Rattle.command_shell.specs.GoingOn.{RunsOn}

-- a size is written by at most six digits, and is from one to the greatest size of a script
pub record IsSize (digits : List ℕ) (size : ℕ) : Type 0 where
  pub short : length digits ≤ 6
  pub number : int_of digits ≡ Some (pos size)
  pub some : 1 ≤ size
  pub few : size ≤ GREATEST_SIZE

-- how many rows a reply lists
abbrev pub listed_rows : Reply → ℕ
listed_rows (Rows rows) = length rows
listed_rows _ = 0

-- how many rows the reply to a statement's text lists, if the text begins with a word
abbrev pub rows_after : List ℕ → List ℕ → Reply → ℕ
rows_after word text reply = if starts_with nat_eq text word then listed_rows reply else 0

-- how many rows the replies to statements list, of those statements that begin with a word
abbrev pub rows_to : List ℕ → List Statement → List Reply → ℕ
rows_to word [] replies = 0
rows_to word (statement ∷ statements) [] = 0
rows_to word (statement ∷ statements) (reply ∷ replies) = rows_after word statement.0 reply + rows_to word statements replies

-- how many of the replies are refusals
abbrev pub refusals : List Reply → ℕ
refusals [] = 0
refusals (reply ∷ replies) = (if is_refusal reply then 1 else 0) + refusals replies

-- the numbers of replies to statements, one after another
pub record Tallies (statements : List Statement) (answered : List Reply) (replies : List Reply) (tally : Tally) : Type 0 where
  pub replied : tally.replies ≡ length replies
  pub certain : tally.certain ≡ rows_to (codes "ask ") statements answered
  pub possible : tally.possible ≡ rows_to (codes "possible ") statements answered
  pub refused : tally.refused ≡ refusals replies

-- words and a number
abbrev pub counted : List ℕ → ℕ → List ℕ
counted words number = words ++ decimal number

-- `demo N: statements S, rows R, certain C, possible P, refused F`, where R rows are stored at the end
abbrev pub line_text : ℕ → ℕ → Tally → List ℕ
line_text size rows tally = counted (codes "demo ") size ++ counted (codes ": statements ") tally.replies ++ counted (codes ", rows ") rows ++ counted (codes ", certain ") tally.certain
    ++ counted (codes ", possible ") tally.possible ++ counted (codes ", refused ") tally.refused ++ codes "\n"

-- An input that has ended was answered, and these are the numbers of its replies.
pub record AnswersAll (old : State) (input : List ℕ) (tally : Tally) (new : State) : Type 0 where
  pub replies : List Reply
  pub run : RunsOver old input true replies new
  pub tallies : Tallies run.statements run.answered replies tally

-- The line on a run over the script of a size, and whether some reply is a refusal.
pub record IsDemo (size : ℕ) (old : State) (line : List ℕ) (refused : Bool) (new : State) : Type 0 where
  pub tally : Tally
  pub answers : AnswersAll old (script_bytes size) tally new
  pub line_is : line ≡ line_text size (row_total new.tables) tally
  pub refused_is : refused ≡ has_refusal answers.replies

-- bytes that such a line begins with
pub record BeginsDemo (size : ℕ) (old : State) (written : List ℕ) (new : State) : Type 0 where
  pub line : List ℕ
  pub more : List ℕ
  pub refused : Bool
  pub demo : IsDemo size old line refused new
  pub begins : line ≡ written ++ more

-- The state is that after the first statements of an input that has ended.
pub record StopsIn (old : State) (input : List ℕ) (new : State) : Type 0 where
  pub statements : List Statement
  pub rest : List ℕ
  pub replies : List Reply
  pub begins : Begins true input statements rest
  pub run : Run old statements replies new

-- The state is that after the first statements of an input that has ended, and a run over all of the input begins with these.
pub record BreaksOffIn (old : State) (input : List ℕ) (new : State) : Type 0 where
  pub stops : StopsIn old input new
  pub all : List Reply
  pub whole : RunsOn old input true stops.statements stops.replies new all
