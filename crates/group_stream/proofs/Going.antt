-- What is gathered, handed on or broken off, step by step.
use Rattle.std.proofs.Common.{◌≡◌, ℕ, ◌≤◌, ◌+◌, Bool, true, false, List, [], ◌∷◌, ◌++◌, Option, take, drop, length, refl, sym, ◌∙◌, ap, subst, arith, append_assoc, append-nil, take-append-drop, length-append}
use Rattle.std.specs.Prelude.{⊤, IsErrAnd, Result, Ok, Err}
use Rattle.std.specs.Io.KnownBytes.{Appends}
use Rattle.cqa_io.specs.Causes.{Rose}
use Rattle.group_stream.specs.declared.ending.Stop.{Stop}
use Rattle.group_stream.specs.declared.ending.Stop.TheVariants as stops
use Rattle.std.proofs.KnownBytes.{Appends-nil, Appends-trans}
use Rattle.group_text.specs.declared.wanted.Wanted.{Wanted}
use Rattle.group_text.specs.Groups.{events}
use Rattle.group_text.specs.Groups.Underway.{Outside}
use Rattle.group_text.specs.Replies.{Replies}
use Rattle.group_stream.specs.Cuts.{AreCut, ended_line}
use Rattle.group_stream.specs.Judges.{CutShort, Judges}
use Rattle.group_stream.specs.Steps.{Breaks, BreaksAtEnd, EndRow, Ends, Gathered, Gathers, GoesOn, PieceRow, Stands}

-- what stands between two lines is what is judged of bytes that haven't ended
pub judged_so_far : (wanted : Wanted) (budget : ℕ) (came written : List ℕ) (g : Gathered) → Stands wanted budget came written g → Judges wanted budget came false (written ++ g.out) g.refused
judged_so_far wanted budget came written g s = record { done = s.done; rest = s.rest; cut = s.cut; replied = s.replied }

-- what was written begins it, whatever bytes come later
pub cut_here : (wanted : Wanted) (budget : ℕ) (came later : List ℕ) (at_end : Type 0) (written : List ℕ) (g : Gathered) (more left : List ℕ) → Stands wanted budget came written g → g.out ≡ more ++ left → CutShort wanted budget (came ++ later) at_end (written ++ more)
cut_here wanted budget came later at_end written g more left s e = record {
  first = came;
  later = later;
  bytes_are = refl;
  ended = false;
  whole = λ i. cc;
  begins = record {
    all = written ++ g.out;
    refused = g.refused;
    judges = judged_so_far wanted budget came written g s;
    left = left;
    begins = ap (λ (xs : List ℕ). written ++ xs) e ∙ sym (append_assoc written more left);
  };
}

-- what is at the end is so for a reason
pub cut_for : (wanted : Wanted) (budget : ℕ) (bytes : List ℕ) (a b : Type 0) (written : List ℕ) → (a → b) → CutShort wanted budget bytes a written → CutShort wanted budget bytes b written
cut_for wanted budget bytes a b written so cut = record {
  first = cut.first;
  later = cut.later;
  bytes_are = cut.bytes_are;
  ended = cut.ended;
  whole = λ e. ((cut.whole e).0, so (cut.whole e).1);
  begins = cut.begins;
}

-- memory is refused
pub breaks_here : (g : Gathered) (held : Option (List ℕ)) (bytes : List ℕ) → Breaks g held held bytes
breaks_here g held bytes = λ wanted budget came written later s. ([], Appends-nil held, cut_here wanted budget came (bytes ++ later) ⊥ written g [] g.out s refl)

-- a write fails
pub hand_breaks : (g : Gathered) (old new : Option (List ℕ)) (n : ℕ) → Appends old new (take n g.out) → Breaks g old new []
hand_breaks g old new n put = λ wanted budget came written later s. (take n g.out, put, cut_here wanted budget came later ⊥ written g (take n g.out) (drop n g.out) s (sym (take-append-drop n g.out)))

-- all is handed on
pub handed : (g : Gathered) (old new : Option (List ℕ)) → Appends old new g.out → GoesOn g (record g { out = [] }) old new []
handed g old new put = λ wanted budget came written s. (
  g.out,
  put,
  record {
    done = s.done;
    rest = s.rest;
    cut = subst (λ (xs : List ℕ). AreCut xs s.done s.rest) (sym (append-nil came)) s.cut;
    held_is = s.held_is;
    machine_is = s.machine_is;
    replied = subst (λ (xs : List ℕ). Replies wanted budget (events wanted 1 Outside s.done) xs g.refused) (sym (append-nil (written ++ g.out))) s.replied;
  },
)

-- nothing is handed on
pub gathers_goes : (a b : Gathered) (held : Option (List ℕ)) (bytes : List ℕ) → Gathers a b bytes → GoesOn a b held held bytes
gathers_goes a b held bytes gathers = λ wanted budget came written s.
    ([], Appends-nil held, subst (λ (xs : List ℕ). Stands wanted budget (came ++ bytes) xs b) (sym (append-nil written)) (gathers wanted budget came written s))

pub goes_nil : (g : Gathered) (held : Option (List ℕ)) → GoesOn g g held held []
goes_nil g held = gathers_goes g g held [] (λ wanted budget came written s. subst (λ (xs : List ℕ). Stands wanted budget xs written g) (sym (append-nil came)) s)

pub goes_goes : (a b c : Gathered) (h i j : Option (List ℕ)) (xs ys : List ℕ) → GoesOn a b h i xs → GoesOn b c i j ys → GoesOn a c h j (xs ++ ys)
goes_goes a b c h i j xs ys first second = λ wanted budget came written s.
    let p = first wanted budget came written s in
    let q = second wanted budget (came ++ xs) (written ++ p.0) p.2 in
    (p.0 ++ q.0, Appends-trans h i j p.0 q.0 p.1 q.1, subst (λ (w : List ℕ). Stands wanted budget (came ++ (xs ++ ys)) w c) (append_assoc written p.0 q.0) (subst (λ (b' : List ℕ). Stands wanted budget b' ((written ++ p.0) ++ q.0) c) (append_assoc came xs ys) q.2))

pub goes_breaks : (a b : Gathered) (h i j : Option (List ℕ)) (xs ys : List ℕ) → GoesOn a b h i xs → Breaks b i j ys → Breaks a h j (xs ++ ys)
goes_breaks a b h i j xs ys first second = λ wanted budget came written later s.
    let p = first wanted budget came written s in
    let q = second wanted budget (came ++ xs) (written ++ p.0) later p.2 in
    let bytes : (came ++ xs) ++ (ys ++ later) ≡ came ++ ((xs ++ ys) ++ later) = append_assoc came xs (ys ++ later) ∙ ap (λ (zs : List ℕ). came ++ zs) (sym (append_assoc xs ys later)) in
    (p.0 ++ q.0, Appends-trans h i j p.0 q.0 p.1 q.1, subst (λ (w : List ℕ). CutShort wanted budget (came ++ ((xs ++ ys) ++ later)) ⊥ w) (append_assoc written p.0 q.0) (subst (λ (zs : List ℕ). CutShort wanted budget zs ⊥ ((written ++ p.0) ++ q.0)) bytes q.2))

-- more bytes come that nobody looks at
pub breaks_more : (a : Gathered) (h i : Option (List ℕ)) (xs ys : List ℕ) → Breaks a h i xs → Breaks a h i (xs ++ ys)
breaks_more a h i xs ys breaks = λ wanted budget came written later s.
    let q = breaks wanted budget came written (ys ++ later) s in
    (q.0, q.1, subst (λ (zs : List ℕ). CutShort wanted budget zs ⊥ (written ++ q.0)) (ap (λ (zs : List ℕ). came ++ zs) (sym (append_assoc xs ys later))) q.2)

-- ---- the end of the input

cut_at_end : (wanted : Wanted) (budget : ℕ) (came written out : List ℕ) (refused : Bool) (n : ℕ) → Judges wanted budget came true (written ++ out) refused → CutShort wanted budget came ⊤ (written ++ take n out)
cut_at_end wanted budget came written out refused n judges = record {
  first = came;
  later = [];
  bytes_are = sym (append-nil came);
  ended = true;
  whole = λ i. (refl, tt);
  begins = record {
    all = written ++ out;
    refused = refused;
    judges = judges;
    left = drop n out;
    begins = ap (λ (xs : List ℕ). written ++ xs) (sym (take-append-drop n out)) ∙ sym (append_assoc written (take n out) (drop n out));
  };
}

-- all is handed on
pub end_handed : (old new : Gathered) (h i : Option (List ℕ)) → Ends old new → Appends h i new.out → (wanted : Wanted) (budget : ℕ) (came written : List ℕ) → Stands wanted budget came written old
    → (more : List ℕ) × Appends h i more × Judges wanted budget came true (written ++ more) new.refused
end_handed old new h i ends put = λ wanted budget came written s. (new.out, put, ends wanted budget came written s)

-- a write fails
pub end_breaks : (old new : Gathered) (h i : Option (List ℕ)) (n : ℕ) → Ends old new → Appends h i (take n new.out) → BreaksAtEnd old h i
end_breaks old new h i n ends put = λ wanted budget came written s. (take n new.out, put, cut_at_end wanted budget came written new.out new.refused n (ends wanted budget came written s))

-- memory is refused
pub end_breaks_here : (g : Gathered) (held : Option (List ℕ)) → BreaksAtEnd g held held
end_breaks_here g held = λ wanted budget came written s.
    ([], Appends-nil held, subst (λ (zs : List ℕ). CutShort wanted budget zs ⊤ (written ++ [])) (append-nil came) (cut_here wanted budget came [] ⊤ written g [] g.out s refl))

-- ---- rows

-- a write fails
pub failed_row : (r : Result (Unit {0}) Stop) → IsErrAnd r (λ stop. stop ≡ stops.WriteFault) → (rose : Type 0) → rose → (a b : Gathered) (h i : Option (List ℕ)) (xs : List ℕ) → Breaks a h i xs → PieceRow r rose a b h i xs
failed_row (Ok u) is rose risen a b h i xs breaks = absurd is
failed_row (Err stop) is rose risen a b h i xs breaks = subst (λ (x : Stop). PieceRow (Err x) rose a b h i xs) (sym is) (risen, breaks)

-- memory is refused
pub refused_row : (r : Result (Unit {0}) Stop) → IsErrAnd r (λ stop. stop ≡ stops.OutOfMemory) → (rose : Type 0) (a b : Gathered) (h : Option (List ℕ)) (xs : List ℕ) → PieceRow r rose a b h h xs
refused_row (Ok u) is rose a b h xs = absurd is
refused_row (Err stop) is rose a b h xs = subst (λ (x : Stop). PieceRow (Err x) rose a b h h xs) (sym is) (breaks_here a h xs)

-- bytes that went on before
pub then_row : (r : Result (Unit {0}) Stop) (rose rose' : Type 0) (a b c : Gathered) (h i j : Option (List ℕ)) (xs ys : List ℕ) → (rose → rose') → GoesOn a b h i xs → PieceRow r rose b c i j ys → PieceRow r rose' a c h j (xs ++ ys)
then_row (Ok u) rose rose' a b c h i j xs ys later went row = goes_goes a b c h i j xs ys went row
then_row (Err stops.WriteFault) rose rose' a b c h i j xs ys later went row = (later row.0, goes_breaks a b h i j xs ys went row.1)
then_row (Err stops.OutOfMemory) rose rose' a b c h i j xs ys later went row = goes_breaks a b h i j xs ys went row

-- bytes behind a fault, which nobody looks at
more_row : (stop : Stop) (rose : Type 0) (a b c : Gathered) (h i : Option (List ℕ)) (xs ys : List ℕ) → PieceRow (Err stop) rose a b h i xs → PieceRow (Err stop) rose a c h i (xs ++ ys)
more_row stops.WriteFault rose a b c h i xs ys row = (row.0, breaks_more a h i xs ys row.1)
more_row stops.OutOfMemory rose a b c h i xs ys row = breaks_more a h i xs ys row

pub stopped_row : (r : Result (Unit {0}) Stop) (stop : Stop) → IsErrAnd r (λ x. x ≡ stop) → (rose rose' : Type 0) (a b c d : Gathered) (h i j : Option (List ℕ)) (xs ys zs : List ℕ) → (rose → rose') → GoesOn a b h i xs → PieceRow (Err stop) rose b c i j ys
    → PieceRow r rose' a d h j (xs ++ (ys ++ zs))
stopped_row (Ok u) stop is rose rose' a b c d h i j xs ys zs later went row = absurd is
stopped_row (Err x) stop is rose rose' a b c d h i j xs ys zs later went row =
    subst (λ (y : Stop). PieceRow (Err y) rose' a d h j (xs ++ (ys ++ zs))) (sym is) (then_row (Err stop) rose rose' a b d h i j xs (ys ++ zs) later went (more_row stop rose b c d i j ys zs row))

pub rose_later : (a b c : ℕ) → a ≤ b → Rose b c → Rose a c
rose_later a b c l r = omega (arith, l, r)

pub rose_before : (a b c : ℕ) → b ≤ c → Rose a b → Rose a c
rose_before a b c l r = omega (arith, l, r)

-- ---- rows of the end

pub end_failed : (r : Result Bool Stop) → IsErrAnd r (λ stop. stop ≡ stops.WriteFault) → (rose : Type 0) → rose → (a : Gathered) (h i : Option (List ℕ)) → BreaksAtEnd a h i → EndRow r rose a h i
end_failed (Ok u) is rose risen a h i breaks = absurd is
end_failed (Err stop) is rose risen a h i breaks = subst (λ (x : Stop). EndRow (Err x) rose a h i) (sym is) (risen, breaks)

pub end_refused : (r : Result Bool Stop) → IsErrAnd r (λ stop. stop ≡ stops.OutOfMemory) → (rose : Type 0) (a : Gathered) (h : Option (List ℕ)) → EndRow r rose a h h
end_refused (Ok u) is rose a h = absurd is
end_refused (Err stop) is rose a h = subst (λ (x : Stop). EndRow (Err x) rose a h h) (sym is) (end_breaks_here a h)

-- one line more is counted, which has a byte at least
pub count_more : (start old new : ℕ) (before line : List ℕ) → old ≤ start + length before → new ≡ old + 1 → new ≤ start + length (before ++ ended_line line)
count_more start old new before line few more = omega (arith, length-append before (ended_line line), length-append line (10 ∷ []), few, more)
