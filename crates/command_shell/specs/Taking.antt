-- What the taker of a run's replies has taken.
use Rattle.std.specs.Prelude.{◌≡◌, ⊤, ℕ, Bool, List, [], ◌∷◌, Some}
use Rattle.script_lex.specs.Scripts.{Statement}
use Rattle.reply_text.specs.declared.reply.Reply.{Reply}
use Rattle.command_shell.specs.declared.ending.Command.TheVariants.{Run}
use Rattle.command_shell.specs.declared.ending.Ending.{Ending}
use Rattle.command_shell.specs.declared.ending.Ending.TheVariants.{Answered, WithRefusal, BadWords, ReadFault, WriteFault, OutOfMemory, TooLong}
use Rattle.session_state.specs.State.{State}
use Rattle.command_shell.specs.Runs.{Answers}
use Rattle.command_shell.specs.Top.{Ended, Outside}

-- the taker took the replies to these statements, one after another
abbrev pub TakesReplies : {Taker : Type 0} (took : Taker → List ℕ → Reply → Taker → Type 0) → Taker → List Statement → List Reply → Taker → Type 0
TakesReplies took old [] [] new = new ≡ old
TakesReplies took old [] (reply ∷ replies) new = ⊥
TakesReplies took old (statement ∷ statements) [] new = ⊥
TakesReplies {Taker = Taker} took old (statement ∷ statements) (reply ∷ replies) new = (mid : Taker) × took old statement.0 reply mid × TakesReplies took mid statements replies new

-- the taker took what the end of the input adds, which answers no statement: its text is empty
abbrev pub TakesLast : {Taker : Type 0} (took : Taker → List ℕ → Reply → Taker → Type 0) → Taker → List Reply → Taker → Type 0
TakesLast took old [] new = new ≡ old
TakesLast {Taker = Taker} took old (reply ∷ replies) new = (mid : Taker) × took old [] reply mid × TakesLast took mid replies new

-- the taker took the replies to these statements, and then what the end of the input adds
pub record TakesRun {Taker : Type 0} (took : Taker → List ℕ → Reply → Taker → Type 0) (old : Taker) (statements : List Statement) (answered last : List Reply) (new : Taker) : Type 0 where
  pub mid : Taker
  pub each : TakesReplies took old statements answered mid
  pub closing : TakesLast took mid last new

-- The statements of the bytes were answered, up to a rest of the bytes, and the taker took the replies.
abbrev pub HandsAnswers : {Taker : Type 0} (took : Taker → List ℕ → Reply → Taker → Type 0) → Taker → Taker → State → List ℕ → Bool → State → List ℕ → Bool → List ℕ → Type 0
HandsAnswers took taker_old taker_new old bytes ended new written refused rest =
    (answers : Answers old bytes ended new written refused) × (answers.run.rest ≡ rest) × TakesRun took taker_old answers.run.statements answers.run.answered answers.run.last taker_new

-- Where all was answered, the taker took each reply.
abbrev pub TakesAll : {Taker : Type 0} (took : Taker → List ℕ → Reply → Taker → Type 0) → Taker → Taker → (ending : Ending) {before after : Outside} {old new : State} → Ended (Some Run) ending before after old new → Type 0
TakesAll took taker_old taker_new Answered call = TakesRun took taker_old call.row.2.run.statements call.row.2.run.answered call.row.2.run.last taker_new
TakesAll took taker_old taker_new WithRefusal call = TakesRun took taker_old call.row.2.run.statements call.row.2.run.answered call.row.2.run.last taker_new
TakesAll took taker_old taker_new BadWords call = ⊤
TakesAll took taker_old taker_new ReadFault call = ⊤
TakesAll took taker_old taker_new WriteFault call = ⊤
TakesAll took taker_old taker_new OutOfMemory call = ⊤
TakesAll took taker_old taker_new TooLong call = ⊤

-- A run ended so, and where all was answered, the taker took each reply.
pub record HandsOn {Taker : Type 0} (took : Taker → List ℕ → Reply → Taker → Type 0) (taker_old taker_new : Taker) (ending : Ending) (before after : Outside) (old new : State) : Type 0 where
  pub call : Ended (Some Run) ending before after old new
  pub taken : TakesAll took taker_old taker_new ending call
