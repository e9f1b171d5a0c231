-- How the line on an input was written.
use Rattle.std.proofs.Common.{◌≡◌, ◌≤◌, ◌+◌, ℕ, Bool, true, false, List, [], length, Option, Some, Result, Ok, Err, refl, subst, sym, take, arith}
use Rattle.std.specs.Io.KnownBytes.{Consumes, IsAtEnd}
use Rattle.std.proofs.KnownBytes.{Appends-nil, Appends-kept}
use Rattle.std.proofs.lemmas.Bool.{false≢true}
use Rattle.command_shell.specs.declared.ending.Stop.{Stop}
use Rattle.command_shell.specs.declared.ending.Stop.TheVariants as stops
use Rattle.input_check.specs.declared.reply.CheckReply.{CheckReply}
use Rattle.input_check.specs.declared.reply.CheckReply.TheVariants.{Verified, BadText, BadLog, BadStatement, BadBlock}
use Rattle.input_check.specs.Inputs.{ChecksInput, IsShown}
use Rattle.input_check.specs.Verdicts.{IsVerdict, BeginsVerdict, input_line, is_shown}
use Rattle.cqa_io.specs.Causes.{Rose}
use Rattle.session_state.specs.State.{State}
use Rattle.command_shell.specs.declared.ending.Command.TheVariants.{Check}
use Rattle.command_shell.specs.declared.ending.ReadEnd.TheVariants as reading
use Rattle.command_shell.specs.Parts.{ReadRow, WriteRow, VerdictRow, ending_of}
use Rattle.command_shell.specs.Top.{Ended, limit, told}

-- what shows what it is to show was verified
shown_verified : (reply : CheckReply) → is_shown reply ≡ true → reply ≡ Verified
shown_verified Verified shown = refl
shown_verified (BadText fault) shown = absurd (false≢true shown)
shown_verified (BadLog fault) shown = absurd (false≢true shown)
shown_verified (BadStatement statement) shown = absurd (false≢true shown)
shown_verified (BadBlock number cause) shown = absurd (false≢true shown)

-- the line of the reply to an input is its verdict
told_verdict : (input : List ℕ) (reply : CheckReply) → ChecksInput input reply → (reply ≡ Verified → IsShown input) → IsVerdict input (is_shown reply) (input_line reply)
told_verdict input reply checks sound = record {
  reply = reply;
  checks = checks;
  verified_is = refl;
  line_is = refl;
  shown = λ shown. sound (shown_verified reply shown);
}

-- the line of the reply to an input was written as its verdict
pub verdict_row : (result : Result Bool Stop) (rose : Type 0) (before after : Option (List ℕ)) (input : List ℕ) (reply : CheckReply) → ChecksInput input reply → (reply ≡ Verified → IsShown input) →
    WriteRow result rose before after (input_line reply) (is_shown reply) → VerdictRow result rose before after input
verdict_row (Ok answer) rose before after input reply checks sound wrote =
    (input_line reply, wrote.0, subst (λ verified. IsVerdict input verified (input_line reply)) (sym wrote.1) (told_verdict input reply checks sound))
verdict_row (Err stops.WriteFault) rose before after input reply checks sound wrote = (
  wrote.0,
  (
    take wrote.1.0 (input_line reply),
    wrote.1.1,
    record {
      verified = is_shown reply;
      line = input_line reply;
      verdict = told_verdict input reply checks sound;
      count = wrote.1.0;
      written_is = refl;
    },
  ),
)
verdict_row (Err stops.OutOfMemory) rose before after input reply checks sound wrote = wrote

-- how `check` ends where its line was not written whole
pub check_stopped : (stop : Stop) (left_before left_after held_before held_after : Option (List ℕ)) (reads_before reads_after writes_before writes_after : ℕ) (came input : List ℕ) (state : State) →
    Consumes left_before left_after came → ReadRow reading.End (IsAtEnd left_after) (Rose reads_before reads_after) came input → VerdictRow (Err stop) (Rose writes_before writes_after) held_before held_after input →
    Ended (Some Check) (ending_of stop) (told left_before held_before reads_before writes_before) (told left_after held_after reads_after writes_after) state state
check_stopped stops.WriteFault left_before left_after held_before held_after reads_before reads_after writes_before writes_after came input state took read wrote = record {
  came = came;
  written = wrote.1.0;
  took = took;
  put = wrote.1.1;
  row = ((wrote.0, read.1, read.2, subst (λ bytes. BeginsVerdict bytes wrote.1.0) read.0 wrote.1.2), refl);
}
check_stopped stops.OutOfMemory left_before left_after held_before held_after reads_before reads_after writes_before writes_after came input state took read wrote = record {
  came = came;
  written = [];
  took = took;
  put = Appends-kept held_before held_before held_after [] (Appends-nil held_before) wrote;
  row = ((one_more (length came) limit read.2, refl), refl);
}
  where
    one_more : (n m : ℕ) → n ≤ m → n ≤ m + 1
    one_more n m h = omega arith
