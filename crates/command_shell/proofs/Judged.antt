-- How `judge` ends.
use Rattle.std.proofs.Common.{◌≡◌, ◌≤◌, ℕ, Bool, true, List, Option, Some, length, take, refl}
use Rattle.group_stream.specs.declared.ending.StreamEnd.{StreamEnd}
use Rattle.group_stream.specs.declared.ending.StreamEnd.TheVariants as ends
use Rattle.std.specs.Prelude.{⊤}
use Rattle.group_stream.specs.Judges.{BeginsReplies, CutShort}
use Rattle.group_stream.specs.Streams.{Streamed}
use Rattle.group_stream.specs.Streams.{told as devices}
use Rattle.session_state.specs.State.{State}
use Rattle.group_text.specs.declared.wanted.Wanted.{Wanted}
use Rattle.command_shell.specs.declared.ending.Command.TheVariants.{Judge}
use Rattle.command_shell.specs.Judging.{ending_at}
use Rattle.command_shell.specs.Top.{Call, Ended, IsReadToEnd, JudgingBreaksOff, told}
use Rattle.existence_law.proofs.Continuing.{written_begins_replies}

-- answers that were cut short begin the replies to all bytes within the limit
breaks_off : (wanted : Wanted) (budget : ℕ) (call : Call) → CutShort wanted budget (take 9223372036854775807 call.came) (IsReadToEnd call × (length call.came ≤ 9223372036854775807)) call.written → JudgingBreaksOff wanted budget call
breaks_off wanted budget call cut = record {
  taken = cut.ended;
  is_end = λ e. (cut.whole e).1;
  whole = begins cut.ended (λ e. e);
  ended = begins true (λ e. refl);
}
  where
    at_end : CutShort wanted budget (take 9223372036854775807 call.came) ⊤ call.written
    at_end = record { first = cut.first; later = cut.later; bytes_are = cut.bytes_are; ended = cut.ended; whole = λ e. ((cut.whole e).0, tt); begins = cut.begins }

    begins : (ended : Bool) → (cut.ended ≡ true → ended ≡ true) → BeginsReplies wanted budget (take 9223372036854775807 call.came) ended call.written
    begins = written_begins_replies wanted budget (take 9223372036854775807 call.came) call.written at_end

-- the row of a stream of groups is that of `judge`
pub judged_row : (wanted : Wanted) (budget : ℕ) (end : StreamEnd) (l₀ l₁ h₀ h₁ : Option (List ℕ)) (r₀ r₁ w₀ w₁ : ℕ) (state : State) → Streamed wanted budget end (devices l₀ h₀ r₀ w₀) (devices l₁ h₁ r₁ w₁) → Ended (Some (Judge wanted budget)) (ending_at end) (told l₀ h₀ r₀ w₀) (told l₁ h₁ r₁ w₁) state state
judged_row wanted budget ends.Answered l₀ l₁ h₀ h₁ r₀ r₁ w₀ w₁ state s = record { came = s.came; written = s.written; took = s.took; put = s.put; row = (s.row, refl) }
judged_row wanted budget ends.WithRefusal l₀ l₁ h₀ h₁ r₀ r₁ w₀ w₁ state s = record { came = s.came; written = s.written; took = s.took; put = s.put; row = (s.row, refl) }
judged_row wanted budget ends.ReadFault l₀ l₁ h₀ h₁ r₀ r₁ w₀ w₁ state s = record { came = s.came; written = s.written; took = s.took; put = s.put; row = (s.row, refl) }
judged_row wanted budget ends.WriteFault l₀ l₁ h₀ h₁ r₀ r₁ w₀ w₁ state s = record { came = s.came; written = s.written; took = s.took; put = s.put; row = ((s.row.0, s.row.1, breaks_off wanted budget _ s.row.2), refl) }
judged_row wanted budget ends.OutOfMemory l₀ l₁ h₀ h₁ r₀ r₁ w₀ w₁ state s = record { came = s.came; written = s.written; took = s.took; put = s.put; row = ((s.row.0, breaks_off wanted budget _ s.row.1), refl) }
judged_row wanted budget ends.TooLong l₀ l₁ h₀ h₁ r₀ r₁ w₀ w₁ state s = record { came = s.came; written = s.written; took = s.took; put = s.put; row = (s.row, refl) }
