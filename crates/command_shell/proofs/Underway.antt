-- A run while its input comes.
use Rattle.std.proofs.Common.{◌≡◌, inl, inr, ◌-◌, ◌+◌, ◌≤◌, ℕ, min, Bool, true, false, ◌||◌, if◌then◌else◌, List, [], ◌++◌, length, take, Option, Result, Ok, Err, refl, sym, ap, ◌∙◌, subst, arith, append-nil}
use Rattle.std.proofs.lemmas.Bool.{cases_lt, false≢true}
use Rattle.std.proofs.lemmas.List.{length-append, length-take, take_all, take-take}
use Rattle.std.proofs.Math.Seq.{take-append-add}
use Rattle.std.specs.Io.KnownBytes.{Consumes, Appends, Keeps, IsAtEnd}
use Rattle.std.proofs.KnownBytes.{Appends-nil, Appends-trans, Consumes-nil, Consumes-trans, Consumes-kept}
use Rattle.cqa_io.specs.Causes.{Rose}
use Rattle.command_shell.specs.declared.ending.Ending.TheVariants as endings
use Rattle.command_shell.specs.declared.ending.Stop.{Stop}
use Rattle.command_shell.specs.declared.ending.Stop.TheVariants as reasons
use Rattle.session_state.specs.State.{State}
use Rattle.command_shell.specs.Runs.{Answers, CutShort}
use Rattle.reply_text.specs.declared.reply.Reply.{Reply}
use Rattle.command_shell.specs.Taking.{HandsAnswers, HandsOn}
use Rattle.command_shell.specs.GoingOn.{GoesOnFrom}
use Rattle.command_shell.specs.Top.{Call, Outside, BreaksOff, limit, told}
use Rattle.command_shell.specs.Parts.{ProgressRow, ending_of, ending_with}
use Rattle.command_shell.proofs.Progress.{nothing_answered, nothing_written, nothing_begun}
use Rattle.command_shell.proofs.Statuses.{breaks_off, ends_so}
use Rattle.command_shell.proofs.Onward.{Open, opened, goes_on, stops}

-- So many bytes have come, and what is complete of those within the limit was answered; the rest of them is held.
pub record Underway {T : Type 0} (took : T → List ℕ → Reply → T → Type 0) (t_old t_now : T) (before now : Outside) (old state : State) (came : ℕ) (held : List ℕ) (refused : Bool) : Type 0 where
  pub bytes : List ℕ
  pub written : List ℕ
  pub consumed : Consumes before.left now.left bytes
  pub put : Appends before.held now.held written
  pub count : length bytes ≡ came
  pub answers : HandsAnswers took t_old t_now old (take limit bytes) false state written refused held
  pub reads : before.reads ≤ now.reads
  pub writes : before.writes ≤ now.writes

pub begins : {T : Type 0} {took : T → List ℕ → Reply → T → Type 0} (t : T) (outside : Outside) (state : State) (held : List ℕ) → held ≡ [] → Underway took t t outside outside state state 0 held false
begins {took = took} t outside state held none = record {
  bytes = [];
  written = [];
  consumed = Consumes-nil outside.left;
  put = Appends-nil outside.held;
  count = refl;
  answers = subst (λ l. HandsAnswers took t t state l false state [] false held) (sym (take_all limit [] (omega arith))) (subst (HandsAnswers took t t state [] false state [] false) (sym none) (nothing_answered t state false));
  reads = omega arith;
  writes = omega arith;
}

-- the front of a piece, and of that a front
front_of : (n count : ℕ) (piece : List ℕ) → take n (take count piece) ≡ take (min count n) piece
front_of n count piece = elim (cases_lt n count) [
  | inl lt ↦ take-take n count piece (omega (arith, lt)) ∙ ap (λ k. take k piece) (omega (arith, lt))
  | inr le ↦ take_all n (take count piece) (omega (arith, le, length-take count piece)) ∙ ap (λ k. take k piece) (omega (arith, le))
]

module _ {T : Type 0} {took : T → List ℕ → Reply → T → Type 0} {t_old t_now : T} {before now : Outside} {old state : State} {came : ℕ} {held : List ℕ} {refused : Bool} (u : Underway took t_old t_now before now old state came held refused) (few : came ≤ limit) where
  all_within : take limit u.bytes ≡ u.bytes
  all_within = take_all limit u.bytes (omega (arith, u.count, few))

  so_far : Open took t_old t_now old u.bytes state u.written refused held
  so_far = subst (λ l. Open took t_old t_now old l state u.written refused held) all_within (subst (Open took t_old t_now old (take limit u.bytes) state u.written refused) u.answers.1 (opened u.answers.0 u.answers.2))

  -- what is within the limit of the bytes and a piece more
  front_on : (count : ℕ) (piece slice : List ℕ) → slice ≡ take (min count (limit - came)) piece → take limit (u.bytes ++ take count piece) ≡ u.bytes ++ slice
  front_on count piece slice kept =
      let parts : limit ≡ length u.bytes + (limit - came) = omega (arith, u.count, few) in
      ap (λ n. take n (u.bytes ++ take count piece)) parts ∙ take-append-add u.bytes (take count piece) (limit - came)
      ∙ ap (λ l. u.bytes ++ l) (front_of (limit - came) count piece ∙ sym kept)

  -- a read failed
  pub read_failed : (left : Option (List ℕ)) (reads : ℕ) → Keeps now.left left → Rose now.reads reads → HandsOn took t_old t_now endings.ReadFault before (told left now.held reads now.writes) old state
  read_failed left reads kept rose = record {
    call = record {
      came = u.bytes;
      written = u.written;
      took = Consumes-kept before.left now.left left u.bytes u.consumed kept;
      put = u.put;
      row = (omega (arith, rose, u.reads), omega (arith, u.count, few), (refused, subst (λ l. Answers old l false state u.written refused) all_within u.answers.0));
    };
    taken = tt;
  }

  -- the statements that a piece completes were answered
  pub turn : (count : ℕ) (piece slice : List ℕ) (after : Outside) (t_new : T) (new : State) (left : List ℕ) (more : Bool) (rose : Type 0) → count ≤ length piece → Consumes now.left after.left (take count piece) → slice ≡ take (min count (limit - came)) piece
      → ProgressRow took t_now t_new (Ok more) rose now.held after.held state (held ++ slice) false new left → now.reads ≤ after.reads → now.writes ≤ after.writes → Underway took t_old t_new before after old new (came + count) left (refused || more)
  turn count piece slice after t_new new left more rose size came kept row reads writes =
      let on = goes_on so_far slice false new t_new row.0 more row.2.0 row.2.2 in
      record {
        bytes = u.bytes ++ take count piece;
        written = u.written ++ row.0;
        consumed = Consumes-trans before.left now.left after.left u.bytes (take count piece) u.consumed came;
        put = Appends-trans before.held now.held after.held u.written row.0 u.put row.1;
        count = omega (arith, u.count, length-append u.bytes (take count piece), length-take count piece, size);
        answers = subst (λ l. HandsAnswers took t_old t_new old l false new (u.written ++ row.0) (refused || more) left) (sym (front_on count piece slice kept)) (on.0, on.1 ∙ row.2.1, on.2);
        reads = omega (arith, u.reads, reads);
        writes = omega (arith, u.writes, writes);
      }

  -- the answers stopped in a piece
  pub stopped : (stop : Stop) (count : ℕ) (piece slice : List ℕ) (after : Outside) (t_new : T) (new : State) (left : List ℕ) → count ≤ length piece → count ≤ (limit + 1) - came → Consumes now.left after.left (take count piece) → slice ≡ take (min count (limit - came)) piece
      → ProgressRow took t_now t_new (Err stop) (Rose now.writes after.writes) now.held after.held state (held ++ slice) false new left → GoesOnFrom new → HandsOn took t_old t_new (ending_of stop) before after old new
  stopped stop count piece slice after t_new new left size room came kept row goes = by_stop stop row
    where
      came_all : Consumes before.left after.left (u.bytes ++ take count piece)
      came_all = Consumes-trans before.left now.left after.left u.bytes (take count piece) u.consumed came

      short : length (u.bytes ++ take count piece) ≤ limit + 1
      short = omega (arith, u.count, length-append u.bytes (take count piece), length-take count piece, size, room, few)

      call : List ℕ → Call
      call written = record { before = before; after = after; came = u.bytes ++ take count piece; written = u.written ++ written; old = old; new = new }

      off : (written : List ℕ) → CutShort state (held ++ slice) (false ≡ true) new written → BreaksOff (call written)
      off written c =
          breaks_off goes (ends_so (λ e. absurd (false≢true e)) (subst (λ l. CutShort old l (false ≡ true) new (u.written ++ written)) (sym (front_on count piece slice kept)) (stops so_far slice (false ≡ true) new written c)))

      by_stop : (stop : Stop) → ProgressRow took t_now t_new (Err stop) (Rose now.writes after.writes) now.held after.held state (held ++ slice) false new left → HandsOn took t_old t_new (ending_of stop) before after old new
      by_stop reasons.WriteFault row = record {
        call = record {
          came = u.bytes ++ take count piece;
          written = u.written ++ row.1.0;
          took = came_all;
          put = Appends-trans before.held now.held after.held u.written row.1.0 u.put row.1.1;
          row = (omega (arith, row.0, u.writes), short, off row.1.0 row.1.2);
        };
        taken = tt;
      }
      by_stop reasons.OutOfMemory row = record {
        call = record {
          came = u.bytes ++ take count piece;
          written = u.written ++ row.0;
          took = came_all;
          put = Appends-trans before.held now.held after.held u.written row.0 u.put row.1;
          row = (short, off row.0 row.2);
        };
        taken = tt;
      }

  -- the input has ended
  pub ended : (result : Result Bool Stop) (nothing : List ℕ) (after : Outside) (t_new : T) (new : State) (left : List ℕ) → nothing ≡ [] → Consumes now.left after.left nothing → IsAtEnd after.left
      → ProgressRow took t_now t_new result (Rose now.writes after.writes) now.held after.held state held true new left → GoesOnFrom new → HandsOn took t_old t_new (ending_with result refused) before after old new
  ended result nothing after t_new new left none came end row goes = by_result result (subst (λ l. ProgressRow took t_now t_new result (Rose now.writes after.writes) now.held after.held state l true new left) (sym (append-nil held)) row)
    where
      came_all : Consumes before.left after.left (u.bytes ++ [])
      came_all = Consumes-trans before.left now.left after.left u.bytes [] u.consumed (subst (Consumes now.left after.left) none came)

      size : length (u.bytes ++ []) ≤ limit
      size = omega (arith, u.count, ap length (append-nil u.bytes), few)

      call : List ℕ → Call
      call written = record { before = before; after = after; came = u.bytes ++ []; written = u.written ++ written; old = old; new = new }

      off : (written : List ℕ) → CutShort state (held ++ []) (true ≡ true) new written → BreaksOff (call written)
      off written c =
          breaks_off goes (ends_so (λ e. (end, size)) (subst (λ l. CutShort old l (true ≡ true) new (u.written ++ written)) (sym (take_all limit (u.bytes ++ []) size)) (stops so_far [] (true ≡ true) new written c)))

      by_refusal : (written : List ℕ) (some : Bool) (rest : List ℕ) → Appends before.held after.held written → HandsAnswers took t_old t_new old (u.bytes ++ []) true new written some rest → HandsOn took t_old t_new (if some then endings.WithRefusal else endings.Answered) before after old new
      by_refusal written true rest put h = record { call = record { came = u.bytes ++ []; written = written; took = came_all; put = put; row = (end, size, h.0) }; taken = h.2 }
      by_refusal written false rest put h = record { call = record { came = u.bytes ++ []; written = written; took = came_all; put = put; row = (end, size, h.0) }; taken = h.2 }

      by_result : (result : Result Bool Stop) → ProgressRow took t_now t_new result (Rose now.writes after.writes) now.held after.held state (held ++ []) true new left → HandsOn took t_old t_new (ending_with result refused) before after old new
      by_result (Ok more) row =
          by_refusal (u.written ++ row.0) (refused || more) row.2.0.run.rest (Appends-trans before.held now.held after.held u.written row.0 u.put row.1) (goes_on so_far [] true new t_new row.0 more row.2.0 row.2.2)
      by_result (Err reasons.WriteFault) row = record {
        call = record {
          came = u.bytes ++ [];
          written = u.written ++ row.1.0;
          took = came_all;
          put = Appends-trans before.held now.held after.held u.written row.1.0 u.put row.1.1;
          row = (omega (arith, row.0, u.writes), omega (arith, size), off row.1.0 row.1.2);
        };
        taken = tt;
      }
      by_result (Err reasons.OutOfMemory) row = record {
        call = record {
          came = u.bytes ++ [];
          written = u.written ++ row.0;
          took = came_all;
          put = Appends-trans before.held now.held after.held u.written row.0 u.put row.1;
          row = (omega (arith, size), off row.0 row.2);
        };
        taken = tt;
      }

-- no memory for a buffer
pub unread : {T : Type 0} {took : T → List ℕ → Reply → T → Type 0} (t : T) (outside : Outside) (state : State) → HandsOn took t t endings.OutOfMemory outside outside state state
unread t outside state =
    let at_end : Type 0 = IsAtEnd outside.left × (0 ≤ limit) in
    let cut = nothing_written state [] at_end in
    record { call = record { came = []; written = []; took = Consumes-nil outside.left; put = Appends-nil outside.held; row = (omega arith, record { cut = cut; whole = nothing_begun state at_end cut.ended; ended = nothing_begun state at_end true }) }; taken = tt }
