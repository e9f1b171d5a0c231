-- Runs of the machine over an input.
use Rattle.std.specs.Prelude.{◌≡◌, ◌⊎◌, ℕ, Bool, true, false, List, [], ◌∷◌, ◌++◌}
use Rattle.std.specs.List.{flat_map, list_any}
use Rattle.script_lex.specs.Scripts.{Statement, Begins, Cuts, HasNoStatement, IsSpace}
use Rattle.refusals.specs.declared.refusal.Refusal.TheVariants.{Unfinished}
use Rattle.reply_text.specs.declared.reply.Reply.{Reply}
use Rattle.reply_text.specs.declared.reply.Reply.TheVariants.{Refused}
use Rattle.reply_text.specs.Texts.{reply_text, is_refusal}
use Rattle.session_state.specs.State.{State}
use Rattle.command_shell.specs.Machine.{Step}

-- The machine may give these replies to these statements, one after another.
abbrev pub Run : State → List Statement → List Reply → State → Type 0
Run old [] [] new = new ≡ old
Run old [] (reply ∷ replies) new = ⊥
Run old (statement ∷ statements) [] new = ⊥
Run old (statement ∷ statements) (reply ∷ replies) new = (mid : State) × Step old statement.0 statement.1 reply mid × Run mid statements replies new

-- the text of a run
abbrev pub text_of : List Reply → List ℕ
text_of replies = flat_map reply_text replies

-- some reply is a refusal
abbrev pub has_refusal : List Reply → Bool
has_refusal replies = list_any is_refusal replies

-- What the end of the input adds: a rest that isn't blank is refused where the input has ended.
abbrev pub Closes : Bool → List ℕ → List Reply → Type 0
Closes false rest last = last ≡ []
Closes true rest [] = IsSpace rest
Closes true rest (reply ∷ replies) = (IsSpace rest → ⊥) × (reply ≡ Refused Unfinished) × (replies ≡ [])

-- a run over an input, which has ended or not
pub record RunsOver (old : State) (input : List ℕ) (ended : Bool) (replies : List Reply) (new : State) : Type 0 where
  pub statements : List Statement
  pub rest : List ℕ
  pub answered : List Reply
  pub last : List Reply
  pub cut : Cuts ended input statements rest
  pub run : Run old statements answered new
  pub closes : Closes ended rest last
  pub all : replies ≡ answered ++ last

-- The statements of the bytes were answered, and the end of the input where it has ended.
pub record Answers (old : State) (bytes : List ℕ) (ended : Bool) (new : State) (written : List ℕ) (refused : Bool) : Type 0 where
  pub replies : List Reply
  pub run : RunsOver old bytes ended replies new
  pub written_is : written ≡ text_of replies
  pub refused_is : refused ≡ has_refusal replies

-- all of these replies but the last one were written whole
abbrev pub ReachesLast : List Reply → List ℕ → Type 0
ReachesLast replies written = (early : List Reply) (reply : Reply) → replies ≡ early ++ reply ∷ [] → (front : List ℕ) × (written ≡ text_of early ++ front)

-- What was written begins the replies to the first statements of the bytes, or to all of them and the end, and all of these but the last one were
-- written whole. The state is that after these statements.
pub record CutShort (old : State) (bytes : List ℕ) (at_end : Type 0) (new : State) (written : List ℕ) : Type 0 where
  pub ended : Bool
  pub is_end : ended ≡ true → at_end
  pub statements : List Statement
  pub rest : List ℕ
  pub replies : List Reply
  pub last : List Reply
  pub more : List ℕ
  pub begins : Begins ended bytes statements rest
  pub run : Run old statements replies new
  pub tail : (last ≡ []) ⊎ ((ended ≡ true) × HasNoStatement true rest × Closes true rest last)
  pub written_is : text_of replies ++ text_of last ≡ written ++ more
  pub late : ReachesLast (replies ++ last) written
