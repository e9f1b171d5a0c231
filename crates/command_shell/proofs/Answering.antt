-- How one statement of an input is answered.
use Rattle.std.proofs.Common.{inr, ℕ, Bool, List, Option, Result, Ok, Err, OnOk}
use Rattle.reply_text.specs.declared.reply.Reply.{Reply}
use Rattle.command_shell.specs.declared.ending.Stop.{Stop}
use Rattle.command_shell.specs.declared.ending.Stop.TheVariants as stops
use Rattle.session_state.specs.State.{State}
use Rattle.command_shell.specs.Machine.{Step}
use Rattle.command_shell.specs.Parts.{AnswerRow, ReplyRow}

-- A reply that is written answers its statement.
pub answered : {T : Type 0} (took : T → List ℕ → Reply → T → Type 0) (t_old t_new : T) (result : Result Bool Stop) (rose : Type 0) (held_old held_new : Option (List ℕ)) (old new : State) (s : List ℕ × Option (List ℕ)) (reply : Reply) → Step old s.0 s.1 reply new
    → ReplyRow result rose held_old held_new reply → OnOk result (took t_old s.0 reply t_new) → AnswerRow took t_old t_new result rose held_old held_new old s new
answered took t_old t_new (Ok refused) rose held_old held_new old new s reply step row one = (reply, step, row.0, row.1, one)
answered took t_old t_new (Err stops.WriteFault) rose held_old held_new old new s reply step row one = (row.0, (reply, row.1.0, step, row.1.1))
answered took t_old t_new (Err stops.OutOfMemory) rose held_old held_new old new s reply step row one = (inr (reply, step), row)
