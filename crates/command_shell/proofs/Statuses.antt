-- The rows of the statuses.
use Rattle.std.proofs.Common.{◌≡◌, ◌≢◌, inl, inr, ◌≤◌, ◌+◌, ℕ, Bool, true, List, [], ◌++◌, length, Option, None, Some, refl, subst, arith}
use Rattle.std.proofs.lemmas.List.{length-append}
use Rattle.std.specs.Io.KnownBytes.{Consumes}
use Rattle.std.proofs.KnownBytes.{Appends-nil, Consumes-nil}
use Rattle.cqa_io.specs.Causes.{Rose}
use Rattle.group_text.specs.declared.wanted.Wanted.{Wanted}
use Rattle.command_shell.specs.declared.ending.Command.{Command}
use Rattle.command_shell.specs.declared.ending.Command.TheVariants.{Run, Check, Demo, Judge}
use Rattle.command_shell.specs.declared.ending.Ending.{Ending}
use Rattle.command_shell.specs.declared.ending.Ending.TheVariants.{Answered, WithRefusal, BadWords, ReadFault, WriteFault, OutOfMemory, TooLong}
use Rattle.session_state.specs.State.{State}
use Rattle.command_shell.specs.Runs.{CutShort}
use Rattle.command_shell.specs.GoingOn.{GoesOnFrom}
use Rattle.command_shell.proofs.Written.{begins_run}
use Rattle.command_shell.specs.Top.{Call, Ended, Outside, RunRow, CheckRow, DemoRow, JudgeRow, BreaksOff, CountsReadFault, CountsWriteFault, IsAllRead, code_of, limit, within_limit, IsWithinLimit, IsCompleted}

-- ---- how a run ends

-- answers are cut short whatever tells that the bytes have ended
pub ends_so : {old : State} {bytes : List ℕ} {P Q : Type 0} {new : State} {written : List ℕ} → (P → Q) → CutShort old bytes P new written → CutShort old bytes Q new written
ends_so tells cut = record {
  ended = cut.ended;
  is_end = λ e. tells (cut.is_end e);
  statements = cut.statements;
  rest = cut.rest;
  replies = cut.replies;
  last = cut.last;
  more = cut.more;
  begins = cut.begins;
  run = cut.run;
  tail = cut.tail;
  written_is = cut.written_is;
  late = cut.late;
}

-- in a state from which the machine goes on, what was written begins a run
pub breaks_off : {call : Call} → GoesOnFrom call.new → CutShort call.old (within_limit call) (IsAllRead call) call.new call.written → BreaksOff call
breaks_off goes cut = record { cut = cut; whole = begins_run cut cut.ended (λ e. e) goes; ended = begins_run cut true (λ e. refl) goes }

-- words that aren't accepted
pub refused_words : (outside : Outside) (state : State) → Ended None BadWords outside outside state state
refused_words outside state = record { came = []; written = []; took = Consumes-nil outside.left; put = Appends-nil outside.held; row = ((refl, refl, refl, refl, refl), refl) }

-- ---- completeness

longer : (bytes left : List ℕ) (n : ℕ) → length (bytes ++ left) ≤ n → length bytes ≡ n + 1 → ⊥
longer bytes left n short long = let both = length-append bytes left in omega (arith, short, long, both)

too_long : (left now : Option (List ℕ)) (came : List ℕ) → Consumes left now came → IsWithinLimit left → length came ≡ limit + 1 → ⊥
too_long None now came took short long = short
too_long (Some bytes) None came took short long = took
too_long (Some bytes) (Some rest) came took short long = longer came rest limit (subst (λ l. length l ≤ limit) took short) long

run_completed : (ending : Ending) (call : Call) (status : ℕ) → status ≡ code_of ending → Consumes call.before.left call.after.left call.came → RunRow ending call
    → (CountsReadFault call → ⊥) → (CountsWriteFault call → ⊥) → IsWithinLimit call.before.left → IsCompleted status
run_completed Answered call status is took row reads writes short = inl is
run_completed WithRefusal call status is took row reads writes short = inr (inl is)
run_completed BadWords call status is took row reads writes short = absurd row
run_completed ReadFault call status is took row reads writes short = absurd (reads row.0)
run_completed WriteFault call status is took row reads writes short = absurd (writes row.0)
run_completed OutOfMemory call status is took row reads writes short = inr (inr is)
run_completed TooLong call status is took row reads writes short = absurd (too_long call.before.left call.after.left call.came took short row.0)

check_completed : (ending : Ending) (call : Call) (status : ℕ) → status ≡ code_of ending → Consumes call.before.left call.after.left call.came → CheckRow ending call
    → (CountsReadFault call → ⊥) → (CountsWriteFault call → ⊥) → IsWithinLimit call.before.left → IsCompleted status
check_completed Answered call status is took row reads writes short = inl is
check_completed WithRefusal call status is took row reads writes short = inr (inl is)
check_completed BadWords call status is took row reads writes short = absurd row
check_completed ReadFault call status is took row reads writes short = absurd (reads row.0)
check_completed WriteFault call status is took row reads writes short = absurd (writes row.0)
check_completed OutOfMemory call status is took row reads writes short = inr (inr is)
check_completed TooLong call status is took row reads writes short = absurd (too_long call.before.left call.after.left call.came took short row.0)

pub demo_completed : (size : ℕ) (ending : Ending) (call : Call) (status : ℕ) → status ≡ code_of ending → DemoRow size ending call → (CountsWriteFault call → ⊥) → IsCompleted status
demo_completed size Answered call status is row writes = inl is
demo_completed size WithRefusal call status is row writes = inr (inl is)
demo_completed size BadWords call status is row writes = absurd row
demo_completed size ReadFault call status is row writes = absurd row
demo_completed size WriteFault call status is row writes = absurd (writes row.1)
demo_completed size OutOfMemory call status is row writes = inr (inr is)
demo_completed size TooLong call status is row writes = absurd row

far_longer : (bytes left : List ℕ) → length (bytes ++ left) ≤ 268435456 → length bytes ≡ 9223372036854775808 → ⊥
far_longer bytes left short long = let both = length-append bytes left in omega (arith, short, long, both)

far_too_long : (left now : Option (List ℕ)) (came : List ℕ) → Consumes left now came → IsWithinLimit left → length came ≡ 9223372036854775808 → ⊥
far_too_long None now came took short long = short
far_too_long (Some bytes) None came took short long = took
far_too_long (Some bytes) (Some rest) came took short long = far_longer came rest (subst (λ l. length l ≤ limit) took short) long

judge_completed : (wanted : Wanted) (budget : ℕ) (ending : Ending) (call : Call) (status : ℕ) → status ≡ code_of ending → Consumes call.before.left call.after.left call.came → JudgeRow wanted budget ending call
    → (CountsReadFault call → ⊥) → (CountsWriteFault call → ⊥) → IsWithinLimit call.before.left → IsCompleted status
judge_completed wanted budget Answered call status is took row reads writes short = inl is
judge_completed wanted budget WithRefusal call status is took row reads writes short = inr (inl is)
judge_completed wanted budget BadWords call status is took row reads writes short = absurd row
judge_completed wanted budget ReadFault call status is took row reads writes short = absurd (reads row.0)
judge_completed wanted budget WriteFault call status is took row reads writes short = absurd (writes row.0)
judge_completed wanted budget OutOfMemory call status is took row reads writes short = inr (inr is)
judge_completed wanted budget TooLong call status is took row reads writes short = absurd (far_too_long call.before.left call.after.left call.came took short row.0)

-- a call without a fault over an input within the limit
pub completed : (command : Option Command) (ending : Ending) (before after : Outside) (old new : State) (status : ℕ) → status ≡ code_of ending → Ended command ending before after old new
    → command ≢ None → (Rose before.reads after.reads → ⊥) → (Rose before.writes after.writes → ⊥) → IsWithinLimit before.left → IsCompleted status
completed (Some Run) ending before after old new status is e some reads writes short = run_completed ending _ status is e.took e.row reads writes short
completed (Some Check) ending before after old new status is e some reads writes short = check_completed ending _ status is e.took e.row.0 reads writes short
completed (Some (Demo size)) ending before after old new status is e some reads writes short = demo_completed size ending _ status is e.row writes
completed (Some (Judge wanted budget)) ending before after old new status is e some reads writes short = judge_completed wanted budget ending _ status is e.took e.row.0 reads writes short
completed None ending before after old new status is e some reads writes short = absurd (some refl)
