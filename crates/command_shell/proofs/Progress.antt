-- How the answers to an input go on, statement by statement.
use Rattle.std.proofs.Common.{◌≡◌, ◌⊎◌, inl, inr, ℕ, Bool, true, false, ◌||◌, List, [], ◌∷◌, ◌++◌, take, drop, Option, Result, Ok, Err, IsErrAnd, OnOk, refl, sym, ap, ◌∙◌, subst, append_assoc, append-nil}
use Rattle.std.proofs.lemmas.List.{take-append-drop, same_from_push}
use Rattle.std.specs.Io.KnownBytes.{Appends, Keeps}
use Rattle.std.proofs.KnownBytes.{Appends-nil, Appends-trans, Appends-kept}
use Rattle.std.proofs.Math.Bool.{or-false, or-true}
use Rattle.script_lex.specs.declared.kinds.Span.{Span}
use Rattle.script_lex.specs.declared.cutting.Cut.TheVariants as cuts
use Rattle.script_lex.specs.declared.modes.Mode.TheVariants.{Outside}
use Rattle.script_lex.specs.Scripts.{Statement, statement_at, Begins, IsCut, IsSpace, HasNoStatement}
use Rattle.script_lex.proofs.Statements.{Begins-push, Cuts-end, Cuts-part, first_statement, space_over}
use Rattle.refusals.specs.declared.refusal.Refusal.TheVariants.{Unfinished}
use Rattle.reply_text.specs.declared.reply.Reply.{Reply}
use Rattle.reply_text.specs.declared.reply.Reply.TheVariants.{Refused}
use Rattle.reply_text.specs.Texts.{reply_text, is_refusal}
use Rattle.command_shell.specs.declared.ending.Stop.{Stop}
use Rattle.command_shell.specs.declared.ending.Stop.TheVariants as stops
use Rattle.session_state.specs.State.{State}
use Rattle.command_shell.specs.Machine.{Step}
use Rattle.command_shell.specs.Runs.{Run, RunsOver, Closes, CutShort, ReachesLast, text_of, has_refusal}
use Rattle.command_shell.specs.GoingOn.{BeginsRun}
use Rattle.command_shell.specs.Parts.{AnswerRow, ReplyRow, CloseRow, ProgressRow}
use Rattle.command_shell.specs.Taking.{TakesReplies, HandsAnswers}

pub Run-push : (old : State) (statements : List Statement) (replies : List Reply) (now : State) (s : Statement) (reply : Reply) (new : State)
    → Run old statements replies now → Step now s.0 s.1 reply new → Run old (statements ++ s ∷ []) (replies ++ reply ∷ []) new
Run-push old [] [] now s reply new run step = (new, subst (λ state. Step state s.0 s.1 reply new) run step, refl)
Run-push old [] (r ∷ replies) now s reply new run step = absurd run
Run-push old (t ∷ statements) [] now s reply new run step = absurd run
Run-push old (t ∷ statements) (r ∷ replies) now s reply new run step = (run.0, run.1, Run-push run.0 statements replies now s reply new run.2 step)

Takes-push : {T : Type 0} (took : T → List ℕ → Reply → T → Type 0) (old : T) (statements : List Statement) (replies : List Reply) (now : T) (s : Statement) (reply : Reply) (new : T)
    → TakesReplies took old statements replies now → took now s.0 reply new → TakesReplies took old (statements ++ s ∷ []) (replies ++ reply ∷ []) new
Takes-push took old [] [] now s reply new taken one = (new, subst (λ t. took t s.0 reply new) taken one, refl)
Takes-push took old [] (r ∷ replies) now s reply new taken one = absurd taken
Takes-push took old (t ∷ statements) [] now s reply new taken one = absurd taken
Takes-push took old (t ∷ statements) (r ∷ replies) now s reply new taken one = (taken.0, taken.1, Takes-push took taken.0 statements replies now s reply new taken.2 one)

pub text_of-append : (xs ys : List Reply) → text_of (xs ++ ys) ≡ text_of xs ++ text_of ys
text_of-append [] ys = refl
text_of-append (x ∷ xs) ys = ap (λ l. reply_text x ++ l) (text_of-append xs ys) ∙ sym (append_assoc (reply_text x) (text_of xs) (text_of ys))

pub text_of-push : (xs : List Reply) (y : Reply) → text_of xs ++ reply_text y ≡ text_of (xs ++ y ∷ [])
text_of-push xs y = ap (λ l. text_of xs ++ l) (sym (append-nil (reply_text y))) ∙ sym (text_of-append xs (y ∷ []))

-- ---- all replies but the last one

pub all_written : (replies : List Reply) → ReachesLast replies (text_of replies)
all_written replies early reply is = (reply_text reply, ap text_of is ∙ sym (text_of-push early reply))

last_begun : (xs : List Reply) (y : Reply) (front : List ℕ) → ReachesLast (xs ++ y ∷ []) (text_of xs ++ front)
last_begun xs y front early reply is = (front, ap (λ l. text_of l ++ front) (same_from_push xs early y reply is).0)

last_unwritten : (xs : List Reply) (y : Reply) → ReachesLast (xs ++ y ∷ []) (text_of xs)
last_unwritten xs y early reply is = ([], ap text_of (same_from_push xs early y reply is).0 ∙ sym (append-nil (text_of early)))

-- the end adds no reply
no_end : {replies : List Reply} {written : List ℕ} → ReachesLast replies written → ReachesLast (replies ++ []) written
no_end {replies = replies} late early reply is = late early reply (sym (append-nil replies) ∙ is)

-- replies were written whole before others
pub after_whole : (before after : List Reply) (written : List ℕ) → ReachesLast after written → ReachesLast (before ++ after) (text_of before ++ written)
after_whole [] after written late early reply is = late early reply is
after_whole (b ∷ before) after written late [] reply is = (text_of (b ∷ before) ++ written, refl)
after_whole (b ∷ before) after written late (e ∷ early) reply is =
    let rest : before ++ after ≡ early ++ reply ∷ [] = cc in
    let first : b ≡ e = cc in
    let k = after_whole before after written late early reply rest in
    (k.0, append_assoc (reply_text b) (text_of before) written ∙ ap (λ l. reply_text b ++ l) k.1 ∙ sym (append_assoc (reply_text b) (text_of early) k.0) ∙ ap (λ r. (reply_text r ++ text_of early) ++ k.0) first)

or_assoc : (a b c : Bool) → (a || (b || c)) ≡ ((a || b) || c)
or_assoc true b c = refl
or_assoc false b c = refl

pub has_refusal-push : (xs : List Reply) (y : Reply) → has_refusal (xs ++ y ∷ []) ≡ (has_refusal xs || is_refusal y)
has_refusal-push [] y = or-false (is_refusal y)
has_refusal-push (x ∷ xs) y = ap (λ b. is_refusal x || b) (has_refusal-push xs y) ∙ or_assoc (is_refusal x) (has_refusal xs) (is_refusal y)

closes_blank : (e : Bool) (rest : List ℕ) → IsSpace rest → Closes e rest []
closes_blank true rest blank = blank
closes_blank false rest blank = refl

empty_space : IsSpace []
empty_space = record { ends = Outside; leads = refl; whole = λ e. absurd (cc e) }

-- what is written of a text, and what isn't
parted : (xs : List Reply) (y : Reply) (n : ℕ) → text_of (xs ++ y ∷ []) ≡ (text_of xs ++ take n (reply_text y)) ++ drop n (reply_text y)
parted xs y n = sym (text_of-push xs y) ∙ ap (λ l. text_of xs ++ l) (sym (take-append-drop n (reply_text y))) ∙ sym (append_assoc (text_of xs) (take n (reply_text y)) (drop n (reply_text y)))

-- the statements before the rest were answered
pub record SoFar {T : Type 0} (took : T → List ℕ → Reply → T → Type 0) (t_old t_now : T) (old : State) (input : List ℕ) (ended : Bool) (rest : List ℕ) (now : State) (refused : Bool) (held_old held_now : Option (List ℕ)) : Type 0 where
  pub statements : List Statement
  pub replies : List Reply
  pub begins : Begins ended input statements rest
  pub run : Run old statements replies now
  pub written : Appends held_old held_now (text_of replies)
  pub refused_is : refused ≡ has_refusal replies
  pub taken : TakesReplies took t_old statements replies t_now

pub start : {T : Type 0} {took : T → List ℕ → Reply → T → Type 0} (t : T) (old : State) (input : List ℕ) (ended : Bool) (held : Option (List ℕ)) → SoFar took t t old input ended input old false held held
start t old input ended held = record { statements = []; replies = []; begins = refl; run = refl; written = Appends-nil held; refused_is = refl; taken = refl }

module _ {T : Type 0} {took : T → List ℕ → Reply → T → Type 0} {t_old t_now : T} {old : State} {input : List ℕ} {ended : Bool} {now : State} {refused : Bool} {held_old held_now : Option (List ℕ)} where
  -- one statement more is answered
  pub more : (rest : List ℕ) (held_new : Option (List ℕ)) (t_new : T) (new : State) (r : Bool) (rose : Type 0) (text : Span) (block : Option Span) (at : ℕ)
      → SoFar took t_old t_now old input ended rest now refused held_old held_now → IsCut ended rest (cuts.Statement text block at)
      → AnswerRow took t_now t_new (Ok r) rose held_now held_new now (statement_at rest text block) new
      → SoFar took t_old t_new old input ended (drop at rest) new (refused || r) held_old held_new
  more rest held_new t_new new r rose text block at s cut row =
      let statement = statement_at rest text block in
      record {
        statements = s.statements ++ statement ∷ [];
        replies = s.replies ++ row.0 ∷ [];
        begins = Begins-push ended input s.statements rest (statement_at rest text block) (drop at rest) s.begins (first_statement ended rest text block at cut);
        run = Run-push old s.statements s.replies now statement row.0 new s.run row.1;
        written = subst (Appends held_old held_new) (text_of-push s.replies row.0) (Appends-trans held_old held_now held_new (text_of s.replies) (reply_text row.0) s.written row.2);
        refused_is = ap (λ b. b || r) s.refused_is ∙ ap (λ b. has_refusal s.replies || b) row.3 ∙ sym (has_refusal-push s.replies row.0);
        taken = Takes-push took t_old s.statements s.replies t_now statement row.0 t_new s.taken row.4;
      }

  -- nothing is left to answer
  done : (rest : List ℕ) → SoFar took t_old t_now old input ended rest now refused held_old held_now → HasNoStatement ended rest → Closes ended rest []
      → ProgressRow took t_old t_now (Ok refused) (Unit {0}) held_old held_now old input ended now rest
  done rest s over closes = (
    text_of s.replies,
    s.written,
    (
      record {
        replies = s.replies;
        run = record { statements = s.statements; rest = rest; answered = s.replies; last = []; cut = record { begins = s.begins; over = over }; run = s.run; closes = closes; all = sym (append-nil s.replies) };
        written_is = refl;
        refused_is = s.refused_is;
      },
      refl,
      record { mid = t_now; each = s.taken; closing = refl },
    ),
  )

  pub done_blank : (rest : List ℕ) → SoFar took t_old t_now old input ended rest now refused held_old held_now → IsSpace rest → ProgressRow took t_old t_now (Ok refused) (Unit {0}) held_old held_now old input ended now rest
  done_blank rest s blank = done rest s (space_over ended rest blank) (closes_blank ended rest blank)

  -- a statement found no memory, before it did anything or after it
  pub short_of_memory : (rest : List ℕ) (at_end : Type 0) (held_new : Option (List ℕ)) (new : State) (text : Span) (block : Option Span) (at : ℕ) → (ended ≡ true → at_end)
      → SoFar took t_old t_now old input ended rest now refused held_old held_now → IsCut ended rest (cuts.Statement text block at)
      → ((new ≡ now) ⊎ ((reply : Reply) × Step now (statement_at rest text block).0 (statement_at rest text block).1 reply new)) → Keeps held_now held_new
      → (written : List ℕ) × Appends held_old held_new written × CutShort old input at_end new written
  short_of_memory rest at_end held_new new text block at is_end s cut did kept = (
    text_of s.replies,
    Appends-kept held_old held_now held_new (text_of s.replies) s.written kept,
    elim did [
      | inl same ↦ record {
        ended = ended;
        is_end = is_end;
        statements = s.statements;
        rest = rest;
        replies = s.replies;
        last = [];
        more = [];
        begins = s.begins;
        run = subst (Run old s.statements s.replies) (sym same) s.run;
        tail = inl refl;
        written_is = refl;
        late = no_end (all_written s.replies);
      }
      | inr step ↦ record {
        ended = ended;
        is_end = is_end;
        statements = s.statements ++ statement_at rest text block ∷ [];
        rest = drop at rest;
        replies = s.replies ++ step.0 ∷ [];
        last = [];
        more = reply_text step.0;
        begins = Begins-push ended input s.statements rest (statement_at rest text block) (drop at rest) s.begins (first_statement ended rest text block at cut);
        run = Run-push old s.statements s.replies now (statement_at rest text block) step.0 new s.run step.1;
        tail = inl refl;
        written_is = append-nil (text_of (s.replies ++ step.0 ∷ [])) ∙ sym (text_of-push s.replies step.0);
        late = no_end (last_unwritten s.replies step.0);
      }
    ],
  )

  -- a reply wasn't wholly written
  pub fault_in_reply : (rest : List ℕ) (at_end : Type 0) (held_new : Option (List ℕ)) (new : State) (text : Span) (block : Option Span) (at : ℕ) → (ended ≡ true → at_end)
      → SoFar took t_old t_now old input ended rest now refused held_old held_now → IsCut ended rest (cuts.Statement text block at)
      → ((reply : Reply) × (n : ℕ) × Step now (statement_at rest text block).0 (statement_at rest text block).1 reply new × Appends held_now held_new (take n (reply_text reply)))
      → (written : List ℕ) × Appends held_old held_new written × CutShort old input at_end new written
  fault_in_reply rest at_end held_new new text block at is_end s cut row =
      let reply = row.0 in
      let n = row.1 in (
        text_of s.replies ++ take n (reply_text reply),
        Appends-trans held_old held_now held_new (text_of s.replies) (take n (reply_text reply)) s.written row.3,
        record {
          ended = ended;
          is_end = is_end;
          statements = s.statements ++ statement_at rest text block ∷ [];
          rest = drop at rest;
          replies = s.replies ++ reply ∷ [];
          last = [];
          more = drop n (reply_text reply);
          begins = Begins-push ended input s.statements rest (statement_at rest text block) (drop at rest) s.begins (first_statement ended rest text block at cut);
          run = Run-push old s.statements s.replies now (statement_at rest text block) reply new s.run row.2;
          tail = inl refl;
          written_is = append-nil (text_of (s.replies ++ reply ∷ [])) ∙ parted s.replies reply n;
          late = no_end (last_begun s.replies reply (take n (reply_text reply)));
        },
      )

  -- an answer that stops
  stopped_by : (stop : Stop) (rest : List ℕ) (rose rose_all : Type 0) (held_new : Option (List ℕ)) (t_new : T) (new : State) (text : Span) (block : Option Span) (at : ℕ) → (rose → rose_all)
      → SoFar took t_old t_now old input ended rest now refused held_old held_now → IsCut ended rest (cuts.Statement text block at)
      → AnswerRow took t_now t_new (Err stop) rose held_now held_new now (statement_at rest text block) new → (left : List ℕ) → ProgressRow took t_old t_new (Err stop) rose_all held_old held_new old input ended new left
  stopped_by stops.WriteFault rest rose rose_all held_new t_new new text block at up s cut row left = (up row.0, fault_in_reply rest (ended ≡ true) held_new new text block at (λ e. e) s cut row.1)
  stopped_by stops.OutOfMemory rest rose rose_all held_new t_new new text block at up s cut row left = short_of_memory rest (ended ≡ true) held_new new text block at (λ e. e) s cut row.0 row.1

  pub stopped : (result : Result Bool Stop) (stop : Stop) → IsErrAnd result (λ e. e ≡ stop) → (rest : List ℕ) (rose rose_all : Type 0) (held_new : Option (List ℕ)) (t_new : T) (new : State) (text : Span) (block : Option Span) (at : ℕ) → (rose → rose_all)
      → SoFar took t_old t_now old input ended rest now refused held_old held_now → IsCut ended rest (cuts.Statement text block at)
      → AnswerRow took t_now t_new (Err stop) rose held_now held_new now (statement_at rest text block) new → (left : List ℕ) → ProgressRow took t_old t_new result rose_all held_old held_new old input ended new left
  stopped (Ok more) stop is rest rose rose_all held_new t_new new text block at up s cut row left = absurd is
  stopped (Err e) stop is rest rose rose_all held_new t_new new text block at up s cut row left =
      stopped_by e rest rose rose_all held_new t_new new text block at up s cut (subst (λ x. AnswerRow took t_now t_new (Err x) rose held_now held_new now (statement_at rest text block) new) (sym is) row) left

-- what is left at the end of an input that has ended
module _ {T : Type 0} {took : T → List ℕ → Reply → T → Type 0} {t_old t_now : T} {old : State} {input rest : List ℕ} {now : State} {refused : Bool} {held_old held_now : Option (List ℕ)} where
  last_begins : (s : SoFar took t_old t_now old input true rest now refused held_old held_now) → HasNoStatement true rest → (IsSpace rest → ⊥) → (written left : List ℕ)
      → text_of s.replies ++ text_of (Refused Unfinished ∷ []) ≡ written ++ left → ReachesLast (s.replies ++ Refused Unfinished ∷ []) written → CutShort old input (true ≡ true) now written
  last_begins s over some written left is late = record {
    ended = true;
    is_end = λ e. e;
    statements = s.statements;
    rest = rest;
    replies = s.replies;
    last = Refused Unfinished ∷ [];
    more = left;
    begins = s.begins;
    run = s.run;
    tail = inr (refl, over, (some, refl, refl));
    written_is = is;
    late = late;
  }

  pub close_ended : (t_new : T) (held_new : Option (List ℕ)) (result : Result Bool Stop) (rose rose_all : Type 0) → (rose → rose_all) → SoFar took t_old t_now old input true rest now refused held_old held_now → IsCut true rest cuts.Part
      → ReplyRow result rose held_now held_new (Refused Unfinished) → OnOk result (took t_now [] (Refused Unfinished) t_new) → ProgressRow took t_old t_new result rose_all held_old held_new old input true now rest
  close_ended t_new held_new (Ok r) rose rose_all up s cut row one = (
    text_of (s.replies ++ Refused Unfinished ∷ []),
    subst (Appends held_old held_new) (text_of-push s.replies (Refused Unfinished)) (Appends-trans held_old held_now held_new (text_of s.replies) (reply_text (Refused Unfinished)) s.written row.0),
    (
      record {
        replies = s.replies ++ Refused Unfinished ∷ [];
        run = record { statements = s.statements; rest = rest; answered = s.replies; last = Refused Unfinished ∷ []; cut = Cuts-part true input s.statements rest s.begins cut; run = s.run; closes = (cut.0, refl, refl); all = refl };
        written_is = refl;
        refused_is = row.1 ∙ sym (has_refusal-push s.replies (Refused Unfinished) ∙ or-true (has_refusal s.replies));
      },
      refl,
      record { mid = t_now; each = s.taken; closing = (t_new, one, refl) },
    ),
  )
  close_ended t_new held_new (Err stops.WriteFault) rose rose_all up s cut row one =
      let n = row.1.0 in
      let last = reply_text (Refused Unfinished) in (
        up row.0,
        (
          text_of s.replies ++ take n last,
          Appends-trans held_old held_now held_new (text_of s.replies) (take n last) s.written row.1.1,
          last_begins s cut.1 cut.0 (text_of s.replies ++ take n last) (drop n last)
              (ap (λ l. text_of s.replies ++ l) (append-nil last ∙ sym (take-append-drop n last)) ∙ sym (append_assoc (text_of s.replies) (take n last) (drop n last)))
              (last_begun s.replies (Refused Unfinished) (take n last)),
        ),
      )
  close_ended t_new held_new (Err stops.OutOfMemory) rose rose_all up s cut row one = (
    text_of s.replies,
    Appends-kept held_old held_now held_new (text_of s.replies) s.written row,
    last_begins s cut.1 cut.0 (text_of s.replies) (text_of (Refused Unfinished ∷ [])) refl (last_unwritten s.replies (Refused Unfinished)),
  )

-- what is left of an input that hasn't ended gets no reply
pub close_open : {T : Type 0} {took : T → List ℕ → Reply → T → Type 0} {t_old t_now : T} {old : State} {input rest : List ℕ} {now : State} {refused : Bool} {held_old held_now : Option (List ℕ)} (t_new : T) (held_new : Option (List ℕ)) (rose : Type 0)
    → SoFar took t_old t_now old input false rest now refused held_old held_now → IsCut false rest cuts.Part → Keeps held_now held_new → t_new ≡ t_now → ProgressRow took t_old t_new (Ok refused) rose held_old held_new old input false now rest
close_open {t_now = t_now} {old = old} {input = input} {rest = rest} {refused = refused} {held_old = held_old} {held_now = held_now} t_new held_new rose s cut kept same = (
  text_of s.replies,
  Appends-kept held_old held_now held_new (text_of s.replies) s.written kept,
  (
    record {
      replies = s.replies;
      run = record { statements = s.statements; rest = rest; answered = s.replies; last = []; cut = Cuts-part false input s.statements rest s.begins cut; run = s.run; closes = refl; all = sym (append-nil s.replies) };
      written_is = refl;
      refused_is = s.refused_is;
    },
    refl,
    record { mid = t_now; each = s.taken; closing = same },
  ),
)

pub closed : {T : Type 0} {took : T → List ℕ → Reply → T → Type 0} {t_old t_now : T} {old : State} {input rest : List ℕ} {now : State} {refused : Bool} {held_old held_now : Option (List ℕ)} (t_new : T) (held_new : Option (List ℕ)) (ended : Bool) (result : Result Bool Stop) (rose rose_all : Type 0) → (rose → rose_all)
    → SoFar took t_old t_now old input ended rest now refused held_old held_now → IsCut ended rest cuts.Part → CloseRow took t_now t_new result rose held_now held_new ended refused → ProgressRow took t_old t_new result rose_all held_old held_new old input ended now rest
closed t_new held_new true result rose rose_all up s cut row = close_ended t_new held_new result rose rose_all up s cut row.0 row.1
closed {took = took} {t_old = t_old} {old = old} {input = input} {rest = rest} {now = now} {held_old = held_old} t_new held_new false result rose rose_all up s cut row =
    subst (λ r. ProgressRow took t_old t_new r rose_all held_old held_new old input false now rest) (sym row.0) (close_open t_new held_new rose_all s cut row.1 row.2)

-- nothing came, and nothing was answered
pub nothing_answered : {T : Type 0} {took : T → List ℕ → Reply → T → Type 0} (t : T) (state : State) (ended : Bool) → HandsAnswers took t t state [] ended state [] false []
nothing_answered t state ended = (
  record {
    replies = [];
    run = record { statements = []; rest = []; answered = []; last = []; cut = Cuts-end ended [] [] refl; run = refl; closes = closes_blank ended [] empty_space; all = refl };
    written_is = refl;
    refused_is = refl;
  },
  refl,
  record { mid = t; each = refl; closing = refl },
)

pub nothing_written : (old : State) (bytes : List ℕ) (at_end : Type 0) → CutShort old bytes at_end old []
nothing_written old bytes at_end = record { ended = false; is_end = λ e. absurd (cc e); statements = []; rest = bytes; replies = []; last = []; more = []; begins = refl; run = refl; tail = inl refl; written_is = refl; late = all_written [] }

-- of no bytes this is a whole run
pub nothing_begun : (state : State) (at_end : Type 0) (ended : Bool) → BeginsRun (nothing_written state [] at_end) ended
unfolding nothing_written
nothing_begun state at_end ended =
    let whole : RunsOver state [] ended [] state = record { statements = []; rest = []; answered = []; last = []; cut = Cuts-end ended [] [] refl; run = refl; closes = closes_blank ended [] empty_space; all = refl } in
    record { all = []; runs_on = record { new = state; whole = whole; later = []; more = []; statements_are = refl; replies_are = refl; run = refl }; left = []; begins = refl }

-- a piece found no memory
pub unfed : {T : Type 0} (took : T → List ℕ → Reply → T → Type 0) (t : T) (result : Result Bool Stop) → IsErrAnd result (λ stop. stop ≡ stops.OutOfMemory) → (rose : Type 0) (held : Option (List ℕ)) (old : State) (bytes : List ℕ) (ended : Bool) (rest : List ℕ)
    → ProgressRow took t t result rose held held old bytes ended old rest
unfed took t (Ok more) is rose held old bytes ended rest = absurd is
unfed took t (Err stop) is rose held old bytes ended rest =
    subst (λ s. ProgressRow took t t (Err s) rose held held old bytes ended old rest) (sym is) ([], Appends-nil held, nothing_written old bytes (ended ≡ true))
