-- What stands between two lines.
use Rattle.std.proofs.Common.{◌≡◌, ℕ, ◌+◌, ◌-◌, ◌||◌, Bool, true, false, List, [], ◌∷◌, ◌++◌, take, length, length-append, refl, sym, ◌∙◌, ap, subst, arith, append_assoc, append-nil}
use Rattle.std.specs.Prelude.{IfOk, Result, Ok, Err}
use Rattle.std.specs.List.{AllByRecursion, flat_map}
use Rattle.cnf_form.specs.Lines.{is_nil}
use Rattle.std.proofs.lemmas.List.Concat.{flat_map-append}
use Rattle.group_text.specs.declared.wanted.Wanted.{Wanted}
use Rattle.group_text.specs.Groups.{Event, Underway, after, asked, events, left_open, next}
use Rattle.group_text.specs.Groups.Underway.{Outside}
use Rattle.group_text.specs.Machines.{Standing, numbered}
use Rattle.group_text.specs.Replies.{Appends, Replies}
use Rattle.group_text.specs.Saying.{Said, said}
use Rattle.group_text.proofs.Parts.{line_of_take}
use Rattle.group_text.proofs.Replying.{replies_both}
use Rattle.std.proofs.lemmas.List.{length-take}
use Rattle.group_stream.specs.Cuts.{AreCut, IsLine, ended_line, last_line}
use Rattle.group_stream.specs.Judges.{all_events}
use Rattle.group_stream.specs.Steps.{Closes, Ends, Gathered, Gathers, IsAtLast, IsHeld, Stands}
use Rattle.group_stream.specs.Steps.{Judges as JudgesLine}
use Rattle.group_stream.proofs.Cutting.{line_joins, said_kept, take_more, take_none}

-- ---- lines one after the other

pub after_more : (w : Wanted) (u : Underway) (ls : List (List ℕ)) (l : List ℕ) → after w u (ls ++ l ∷ []) ≡ next w (after w u ls) (said l)
after_more w u [] l = refl
after_more w u (m ∷ ls) l = after_more w (next w u (said m)) ls l

pub events_more : (w : Wanted) (n : ℕ) (u : Underway) (ls : List (List ℕ)) (l : List ℕ) → events w n u (ls ++ l ∷ []) ≡ events w n u ls ++ asked w (n + length ls) (after w u ls) (said l)
events_more w n u [] l = let e : n + 0 ≡ n = omega arith in append-nil (asked w n u (said l)) ∙ ap (λ k. asked w k u (said l)) (sym e)
events_more w n u (m ∷ ls) l =
    let e : (n + 1) + length ls ≡ n + length (m ∷ ls) = omega arith in
    ap (λ (es : List Event). asked w n u (said m) ++ es) (events_more w (n + 1) (next w u (said m)) ls l ∙ ap (λ k. events w (n + 1) (next w u (said m)) ls ++ asked w k (after w (next w u (said m)) ls) (said l)) e)
    ∙ sym (append_assoc (asked w n u (said m)) (events w (n + 1) (next w u (said m)) ls) (asked w (n + length (m ∷ ls)) (after w (next w u (said m)) ls) (said l)))

each_more : (ls : List (List ℕ)) (l : List ℕ) → AllByRecursion IsLine ls → IsLine l → AllByRecursion IsLine (ls ++ l ∷ [])
each_more [] l each is = (is, tt)
each_more (m ∷ ls) l each is = (each.0, each_more ls l each.1 is)

text_more : (ls : List (List ℕ)) (l : List ℕ) → flat_map ended_line (ls ++ l ∷ []) ≡ flat_map ended_line ls ++ ended_line l
text_more ls l = flat_map-append ended_line ls (l ∷ []) ∙ ap (λ (xs : List ℕ). flat_map ended_line ls ++ xs) (append-nil (ended_line l))

-- ---- the gathering

abbrev before_lines : Wanted → ℕ → List ℕ → Bool → Gathered
before_lines wanted budget out refused = record { machine = record { wanted = wanted; budget = budget; number = 0; underway = Outside }; held = []; out = out; refused = refused }

pub begins : (wanted : Wanted) (budget : ℕ) → Stands wanted budget [] [] (before_lines wanted budget [] false)
begins wanted budget = record {
  done = [];
  rest = [];
  cut = record { bytes_are = refl; each = tt; rest_is = refl };
  held_is = refl;
  machine_is = refl;
  replied = record { replies = []; each = tt; text_is = refl; refused_is = refl };
}

-- bytes without an LF are held
pub holds : (old : Gathered) (bytes : List ℕ) → IsLine bytes → Gathers old (record old { held = old.held ++ take (16777217 - length old.held) bytes }) bytes
holds old bytes is = λ wanted budget came written s. record {
  done = s.done;
  rest = s.rest ++ bytes;
  cut = record {
    bytes_are = ap (λ (xs : List ℕ). xs ++ bytes) s.cut.bytes_are ∙ append_assoc (flat_map ended_line s.done) s.rest bytes;
    each = s.cut.each;
    rest_is = line_joins s.rest bytes s.cut.rest_is is;
  };
  held_is = ap (λ (xs : List ℕ). xs ++ take (16777217 - length xs) bytes) s.held_is ∙ take_more 16777217 s.rest bytes;
  machine_is = s.machine_is;
  replied = s.replied;
}

-- the machine behind lines
abbrev behind : Wanted → ℕ → List (List ℕ) → Standing
behind wanted budget ls = record { wanted = wanted; budget = budget; number = length ls; underway = after wanted Outside ls }

-- one line more is judged
one_more : (wanted : Wanted) (budget : ℕ) (done : List (List ℕ)) (l line written : List ℕ) (old new : Gathered) → old.machine ≡ behind wanted budget done → Replies wanted budget (events wanted 1 Outside done) (written ++ old.out) old.refused
    → JudgesLine line old new → said line ≡ said l
    → (new.machine ≡ behind wanted budget (done ++ l ∷ [])) × Replies wanted budget (events wanted 1 Outside (done ++ l ∷ [])) (written ++ new.out) new.refused
one_more wanted budget done l line written old new machine replied j says = (moved, told)
  where
    moved : new.machine ≡ behind wanted budget (done ++ l ∷ [])
    moved =
        let count : length done + 1 ≡ length (done ++ l ∷ []) = sym (length-append done (l ∷ [])) in
        j.steps.0 ∙ ap (λ (m : Standing). record (numbered m) { underway = next m.wanted m.underway (said line) }) machine
        ∙ ap (λ (x : Said). record (numbered (behind wanted budget done)) { underway = next wanted (after wanted Outside done) x }) says
        ∙ ap (λ (u : Underway). record (numbered (behind wanted budget done)) { underway = u }) (sym (after_more wanted Outside done l)) ∙ ap (λ (k : ℕ). record (behind wanted budget (done ++ l ∷ [])) { number = k }) count

    asks : ℕ → List Event
    asks k = asked wanted k (after wanted Outside done) (said l)

    added : Appends wanted budget (asks (1 + length done)) j.refused old.out new.out
    added =
        let count : length done + 1 ≡ 1 + length done = omega arith in
        subst (λ (k : ℕ). Appends wanted budget (asks k) j.refused old.out new.out) count
        (subst (λ (x : Said). Appends wanted budget (asked wanted (length done + 1) (after wanted Outside done) x) j.refused old.out new.out) says
        (subst (λ (m : Standing). Appends m.wanted m.budget (asked m.wanted (m.number + 1) m.underway (said line)) j.refused old.out new.out) machine j.steps.1))

    told : Replies wanted budget (events wanted 1 Outside (done ++ l ∷ [])) (written ++ new.out) new.refused
    told =
        let text : (written ++ old.out) ++ added.text ≡ written ++ new.out = append_assoc written old.out added.text ∙ ap (λ (xs : List ℕ). written ++ xs) (sym added.new_is) in
        subst (λ (b : Bool). Replies wanted budget (events wanted 1 Outside (done ++ l ∷ [])) (written ++ new.out) b) (sym j.refused_is)
        (subst (λ (xs : List ℕ). Replies wanted budget (events wanted 1 Outside (done ++ l ∷ [])) xs (old.refused || j.refused)) text
        (subst (λ (es : List Event). Replies wanted budget es ((written ++ old.out) ++ added.text) (old.refused || j.refused)) (sym (events_more wanted 1 Outside done l))
        (replies_both wanted budget (events wanted 1 Outside done) (asks (1 + length done)) (written ++ old.out) added.text old.refused j.refused replied added.replied)))

ended_bytes : (came : List ℕ) (done : List (List ℕ)) (rest bytes : List ℕ) → came ≡ flat_map ended_line done ++ rest → came ++ ended_line bytes ≡ flat_map ended_line (done ++ (rest ++ bytes) ∷ []) ++ []
ended_bytes came done rest bytes e =
    ap (λ (xs : List ℕ). xs ++ ended_line bytes) e ∙ append_assoc (flat_map ended_line done) rest (ended_line bytes)
    ∙ ap (λ (xs : List ℕ). flat_map ended_line done ++ xs) (sym (append_assoc rest bytes (10 ∷ []))) ∙ sym (text_more done (rest ++ bytes)) ∙ sym (append-nil (flat_map ended_line (done ++ (rest ++ bytes) ∷ [])))

-- a line is ended whose bytes say what was judged
pub judged : (old new : Gathered) (line bytes : List ℕ) → IsLine bytes → JudgesLine line old new → new.held ≡ [] → ((rest : List ℕ) → old.held ≡ take 16777217 rest → said line ≡ said (rest ++ bytes)) → Gathers old new (ended_line bytes)
judged old new line bytes is j none says = λ wanted budget came written s.
    let l = s.rest ++ bytes in
    let more = one_more wanted budget s.done l line written old new s.machine_is s.replied j (says s.rest s.held_is) in
    record {
      done = s.done ++ l ∷ [];
      rest = [];
      cut = record { bytes_are = ended_bytes came s.done s.rest bytes s.cut.bytes_are; each = each_more s.done l s.cut.each (line_joins s.rest bytes s.cut.rest_is is); rest_is = refl };
      held_is = none;
      machine_is = more.0;
      replied = more.1;
    }

-- the last line, which no LF ends
pub last_judged : (old new : Gathered) (line : List ℕ) → JudgesLine line old new → old.held ≡ line → (line ≡ [] → ⊥) → Closes old new
last_judged old new line j held some = λ wanted budget came written s. go wanted budget came written s s.rest refl
  where
    go : (wanted : Wanted) (budget : ℕ) (came written : List ℕ) (s : Stands wanted budget came written old) (rest : List ℕ) → s.rest ≡ rest → IsAtLast wanted budget came written new
    go wanted budget came written s [] e = absurd (some (sym held ∙ s.held_is ∙ ap (take 16777217) e))
    go wanted budget came written s (b ∷ bs) e =
        let says : said line ≡ said (b ∷ bs) = ap said (sym held ∙ s.held_is ∙ ap (take 16777217) e) ∙ said_kept (b ∷ bs) in
        let more = one_more wanted budget s.done (b ∷ bs) line written old new s.machine_is s.replied j says in
        record { done = s.done; rest = b ∷ bs; cut = subst (AreCut came s.done) e s.cut; machine_is = more.0; replied = more.1 }

pub none_judged : (old : Gathered) → old.held ≡ [] → Closes old old
none_judged old none = λ wanted budget came written s.
    let empty : s.rest ≡ [] = take_none 16777216 s.rest (sym s.held_is ∙ none) in
    let same : s.done ++ [] ≡ s.done = append-nil s.done in
    record {
      done = s.done;
      rest = [];
      cut = subst (AreCut came s.done) empty s.cut;
      machine_is = s.machine_is ∙ ap (behind wanted budget) (sym same);
      replied = subst (λ (ls : List (List ℕ)). Replies wanted budget (events wanted 1 Outside ls) (written ++ old.out) old.refused) (sym same) s.replied;
    }

-- the end of the input
pub closed : (old mid new : Gathered) (refused : Bool) → Closes old mid → Appends mid.machine.wanted mid.machine.budget (left_open (mid.machine.number + 1) mid.machine.underway) refused mid.out new.out → new.refused ≡ (mid.refused || refused) → Ends old new
closed old mid new refused closes end is = λ wanted budget came written s.
    let at = closes wanted budget came written s in
    let ls = at.done ++ last_line at.rest in
    let added = subst (λ (m : Standing). Appends m.wanted m.budget (left_open (m.number + 1) m.underway) refused mid.out new.out) at.machine_is end in
    let text : (written ++ mid.out) ++ added.text ≡ written ++ new.out = append_assoc written mid.out added.text ∙ ap (λ (xs : List ℕ). written ++ xs) (sym added.new_is) in
    record {
      done = at.done;
      rest = at.rest;
      cut = at.cut;
      replied = subst (λ (b : Bool). Replies wanted budget (all_events wanted ls) (written ++ new.out) b) (sym is) (subst (λ (xs : List ℕ). Replies wanted budget (all_events wanted ls) xs (mid.refused || refused)) text
          (replies_both wanted budget (events wanted 1 Outside ls) (left_open (length ls + 1) (after wanted Outside ls)) (written ++ mid.out) added.text mid.refused refused at.replied added.replied));
    }

-- ---- what a line says that is held, or isn't

-- where nothing is held the line is all that came of it
pub says_whole : (old : Gathered) (line : List ℕ) → old.held ≡ [] → (rest : List ℕ) → old.held ≡ take 16777217 rest → said line ≡ said (rest ++ line)
says_whole old line none rest e = ap (λ (xs : List ℕ). said (xs ++ line)) (sym (take_none 16777216 rest (sym e ∙ none)))

-- what is held of a line says what it says
pub says_held : (old : Gathered) (bytes : List ℕ) (rest : List ℕ) → old.held ≡ take 16777217 rest → said (old.held ++ take (16777217 - length old.held) bytes) ≡ said (rest ++ bytes)
says_held old bytes rest e = ap said (ap (λ (xs : List ℕ). xs ++ take (16777217 - length xs) bytes) e ∙ take_more 16777217 rest bytes) ∙ said_kept (rest ++ bytes)

pub held_more : (held bytes : List ℕ) → IsHeld held → IsLine bytes → IsHeld (held ++ take (16777217 - length held) bytes)
held_more held bytes h is = record {
  line = line_joins held (take (16777217 - length held) bytes) h.line (line_of_take (16777217 - length held) bytes is);
  few = omega (arith, length-append held (take (16777217 - length held) bytes), length-take (16777217 - length held) bytes, h.few);
}

pub none_held : IsHeld []
none_held = record { line = refl; few = omega arith }

-- ---- small facts

pub nil_of : (xs : List ℕ) → is_nil xs ≡ true → xs ≡ []
nil_of [] e = refl
nil_of (x ∷ xs) e = cc

pub some_of : (xs : List ℕ) → is_nil xs ≡ false → xs ≡ [] → ⊥
some_of [] e n = cc
some_of (x ∷ xs) e n = cc

-- what is held tells nothing of what is judged
pub same_but_held : (old : Gathered) (held line : List ℕ) (new : Gathered) → JudgesLine line (record old { held = held }) new → JudgesLine line old new
same_but_held old held line new j = record { refused = j.refused; steps = j.steps; refused_is = j.refused_is }

pub on_both : {T E : Type 0} (P Q R : T → Type 0) (r : Result T E) → ((t : T) → P t → Q t → R t) → IfOk r P → IfOk r Q → IfOk r R
on_both P Q R (Ok t) f p q = f t p q
on_both P Q R (Err e) f p q = tt
