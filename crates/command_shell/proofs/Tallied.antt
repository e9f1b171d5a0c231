-- The numbers of a run's replies, where a tally took them.
use Rattle.std.proofs.Common.{◌≡◌, ◌⊎◌, inl, inr, ℕ, ◌+◌, ◌≤◌, Bool, true, false, ◌||◌, nat_lt, List, [], ◌∷◌, ◌++◌, length, take, None, Some, codes, if◌then◌else◌, refl, sym, ap, ◌∙◌, subst, append-nil, arith}
use Rattle.std.proofs.lemmas.Bool.Decides.{Decides-ltb}
use Rattle.std.proofs.lemmas.List.{length-append, take_all}
use Rattle.script_lex.specs.Scripts.{Statement, Begins}
use Rattle.script_lex.proofs.Statements.{Begins-append}
use Rattle.reply_text.specs.declared.reply.Reply.{Reply}
use Rattle.reply_text.specs.Texts.{is_refusal}
use Rattle.command_shell.specs.declared.ending.Ending.{Ending}
use Rattle.command_shell.specs.declared.ending.Ending.TheVariants as endings
use Rattle.command_shell.specs.declared.tally.Tally.{Tally}
use Rattle.session_state.specs.State.{State}
use Rattle.command_shell.specs.Runs.{Run, RunsOver, Answers, has_refusal}
use Rattle.command_shell.specs.Demo.{rows_to, refusals, AnswersAll, StopsIn}
use Rattle.command_shell.specs.Tallying.{AddsReply}
use Rattle.command_shell.specs.Taking.{TakesReplies, TakesLast, TakesRun, HandsOn}
use Rattle.command_shell.specs.Top.{limit, told}

-- a tally has grown by the numbers of these replies
record Grown (before : Tally) (statements : List Statement) (answered replies : List Reply) (now : Tally) : Type 0 where
  pub replied : now.replies ≡ before.replies + length replies
  pub certain : now.certain ≡ before.certain + rows_to (codes "ask ") statements answered
  pub possible : now.possible ≡ before.possible + rows_to (codes "possible ") statements answered
  pub refused : now.refused ≡ before.refused + refusals replies

by_each : (before : Tally) (statements : List Statement) (replies : List Reply) (now : Tally) → TakesReplies AddsReply before statements replies now → Grown before statements replies replies now
by_each before [] [] now same =
    let a = ap (λ t. t.replies) same in
    let b = ap (λ t. t.certain) same in
    let c = ap (λ t. t.possible) same in
    let d = ap (λ t. t.refused) same in
    record { replied = omega (arith, a); certain = omega (arith, b); possible = omega (arith, c); refused = omega (arith, d) }
by_each before [] (reply ∷ replies) now taken = absurd taken
by_each before (statement ∷ statements) [] now taken = absurd taken
by_each before (statement ∷ statements) (reply ∷ replies) now taken =
    let one = taken.1 in
    let later = by_each taken.0 statements replies now taken.2 in
    record { replied = omega (arith, one.replied, later.replied); certain = omega (arith, one.certain, later.certain); possible = omega (arith, one.possible, later.possible); refused = omega (arith, one.refused, later.refused) }

by_last : (before : Tally) (last : List Reply) (now : Tally) → TakesLast AddsReply before last now → Grown before [] [] last now
by_last before [] now same =
    let a = ap (λ t. t.replies) same in
    let b = ap (λ t. t.certain) same in
    let c = ap (λ t. t.possible) same in
    let d = ap (λ t. t.refused) same in
    record { replied = omega (arith, a); certain = omega (arith, b); possible = omega (arith, c); refused = omega (arith, d) }
by_last before (reply ∷ last) now taken =
    let one = taken.1 in
    let later = by_last taken.0 last now taken.2 in
    record { replied = omega (arith, one.replied, later.replied); certain = omega (arith, one.certain, later.certain); possible = omega (arith, one.possible, later.possible); refused = omega (arith, one.refused, later.refused) }

refusals-append : (a b : List Reply) → refusals (a ++ b) ≡ refusals a + refusals b
refusals-append [] b = omega arith
refusals-append (reply ∷ a) b =
    let later = refusals-append a b in
    omega (arith, later)

-- a run whose replies a new tally took
tallied : {old : State} {input : List ℕ} {replies : List Reply} {new : State} (before tally : Tally) → before ≡ record { replies = 0; certain = 0; possible = 0; refused = 0 } → (run : RunsOver old input true replies new)
    → TakesRun AddsReply before run.statements run.answered run.last tally → AnswersAll old input tally new
tallied {replies = replies} before tally none run taken =
    let each = by_each before run.statements run.answered taken.mid taken.each in
    let last = by_last taken.mid run.last tally taken.closing in
    let a = ap (λ t. t.replies) none in
    let b = ap (λ t. t.certain) none in
    let c = ap (λ t. t.possible) none in
    let d = ap (λ t. t.refused) none in
    let long = ap length run.all ∙ length-append run.answered run.last in
    let all = ap refusals run.all ∙ refusals-append run.answered run.last in
    record {
      replies = replies;
      run = run;
      tallies = record { replied = omega (arith, each.replied, last.replied, a, long); certain = omega (arith, each.certain, last.certain, b); possible = omega (arith, each.possible, last.possible, c); refused = omega (arith, each.refused, last.refused, d, all) };
    }

-- some reply is a refusal exactly where their number isn't zero
pub some_refused : (replies : List Reply) → nat_lt 0 (refusals replies) ≡ has_refusal replies
some_refused [] = refl
some_refused (reply ∷ replies) = by_first (is_refusal reply) (refusals replies) (has_refusal replies) (some_refused replies)
  where
    by_first : (first : Bool) (count : ℕ) (later : Bool) → nat_lt 0 count ≡ later → nat_lt 0 ((if first then 1 else 0) + count) ≡ (first || later)
    by_first true count later is = (Decides-ltb 0 (1 + count)).1 (omega arith)
    by_first false count later is = let same : 0 + count ≡ count = omega arith in ap (nat_lt 0) same ∙ is

-- all statements are first statements
pub at_its_end : (old new : State) (input : List ℕ) (tally : Tally) → AnswersAll old input tally new → StopsIn old input new
at_its_end old new input tally a = record { statements = a.run.statements; rest = a.run.rest; replies = a.run.answered; begins = a.run.cut.begins; run = a.run.run }

-- before the first statement
pub at_its_start : (state : State) (input : List ℕ) → StopsIn state input state
at_its_start state input = record { statements = []; rest = input; replies = []; begins = refl; run = refl }

-- how a run ended over these bytes from a source that never fails, into a tally
abbrev Ends : (before tally : Tally) (source left : List ℕ) (old new : State) → Ending → Type 0
Ends before tally source left old new ending = HandsOn AddsReply before tally ending (told (Some source) None 0 0) (told (Some left) None 0 0) old new

-- where nothing is left, all has come
whole : (source came left : List ℕ) → source ≡ came ++ left → left ≡ [] → came ≡ source
whole source came left took none = sym (took ∙ ap (λ l. came ++ l) none ∙ append-nil came)

-- all was answered
answered : (before tally : Tally) (source left script : List ℕ) (old new : State) → source ≡ script → before ≡ record { replies = 0; certain = 0; possible = 0; refused = 0 } → Ends before tally source left old new endings.Answered → AnswersAll old script tally new
answered before tally source left script old new is none h =
    subst (λ input. AnswersAll old input tally new) (whole source h.call.came left h.call.took h.call.row.0 ∙ is) (tallied before tally none h.call.row.2.run h.taken)

with_refusal : (before tally : Tally) (source left script : List ℕ) (old new : State) → source ≡ script → before ≡ record { replies = 0; certain = 0; possible = 0; refused = 0 } → Ends before tally source left old new endings.WithRefusal → AnswersAll old script tally new
with_refusal before tally source left script old new is none h =
    subst (λ input. AnswersAll old input tally new) (whole source h.call.came left h.call.took h.call.row.0 ∙ is) (tallied before tally none h.call.row.2.run h.taken)

pub all_answered : (before tally : Tally) (source left script : List ℕ) (old new : State) → source ≡ script → before ≡ record { replies = 0; certain = 0; possible = 0; refused = 0 } → (ending : Ending) → (ending ≡ endings.Answered) ⊎ (ending ≡ endings.WithRefusal)
    → Ends before tally source left old new ending → AnswersAll old script tally new
all_answered before tally source left script old new is none ending by h = elim by [
  | inl same ↦ answered before tally source left script old new is none (subst (Ends before tally source left old new) same h)
  | inr same ↦ with_refusal before tally source left script old new is none (subst (Ends before tally source left old new) same h)
]

-- the first statements of what came are those of the whole
first : (ended : Bool) (source came left : List ℕ) (old new : State) → source ≡ came ++ left → (ended ≡ true → left ≡ []) → (s : List Statement) (rest : List ℕ) (replies : List Reply) → Begins ended came s rest → Run old s replies new → StopsIn old source new
first true source came left old new took end s rest replies begins run = record { statements = s; rest = rest; replies = replies; begins = subst (λ input. Begins true input s rest) (whole source came left took (end refl)) begins; run = run }
first false source came left old new took end s rest replies begins run = record { statements = s; rest = rest ++ left; replies = replies; begins = subst (λ input. Begins true input s (rest ++ left)) (sym took) (Begins-append true came left s rest begins); run = run }

over : {written : List ℕ} {refused : Bool} (source came left : List ℕ) (old new : State) → source ≡ came ++ left → left ≡ [] → Answers old came true new written refused → StopsIn old source new
over source came left old new took none a = first true source came left old new took (λ e. none) a.run.statements a.run.rest a.run.answered a.run.cut.begins a.run.run

-- However it ended, the state is that after the first statements.
stops : (before tally : Tally) (source left : List ℕ) (old new : State) → length source ≤ 268_435_456 → (ending : Ending) → Ends before tally source left old new ending → StopsIn old source new
stops before tally source left old new few endings.Answered h = over source h.call.came left old new h.call.took h.call.row.0 h.call.row.2
stops before tally source left old new few endings.WithRefusal h = over source h.call.came left old new h.call.took h.call.row.0 h.call.row.2
stops before tally source left old new few endings.BadWords h = absurd h.call.row
stops before tally source left old new few endings.ReadFault h = let rose = h.call.row.0 in absurd (omega (arith, rose))
stops before tally source left old new few endings.WriteFault h = let rose = h.call.row.0 in absurd (omega (arith, rose))
stops before tally source left old new few endings.OutOfMemory h =
    let c = h.call.row.1.cut in
    let all = ap length h.call.took ∙ length-append h.call.came left in
    let within = take_all limit h.call.came (omega (arith, all, few)) in
    first c.ended source (take limit h.call.came) left old new (h.call.took ∙ ap (λ l. l ++ left) (sym within)) (λ e. (c.is_end e).0) c.statements c.rest c.replies c.begins c.run
stops before tally source left old new few endings.TooLong h =
    let long = h.call.row.0 in
    let all = ap length h.call.took ∙ length-append h.call.came left in
    absurd (omega (arith, long, all, few))

pub stopped : (before tally : Tally) (source left script : List ℕ) (old new : State) → source ≡ script → length script ≤ 268_435_456 → (ending : Ending) → Ends before tally source left old new ending → StopsIn old script new
stopped before tally source left script old new is few ending h =
    subst (λ input. StopsIn old input new) is (stops before tally source left old new (subst (λ input. length input ≤ 268_435_456) (sym is) few) ending h)
