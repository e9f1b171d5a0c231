-- The loop over pieces.
use Rattle.std.proofs.Common.{◌≡◌, ℕ, zero, suc, ◌≤◌, ◌+◌, ◌-◌, Bool, true, false, List, [], ◌∷◌, ◌++◌, Option, min, take, length, length-append, refl, sym, ◌∙◌, ap, subst, arith, append-nil, inl, inr}
use Rattle.std.specs.Prelude.{⊤, Result, Ok, Err}
use Rattle.std.specs.Io.KnownBytes.{Appends, Consumes, IsAtEnd, Keeps}
use Rattle.std.proofs.KnownBytes.{Appends-nil, Appends-trans, Consumes-kept, Consumes-nil, Consumes-trans}
use Rattle.std.proofs.lemmas.List.{length-take}
use Rattle.cqa_value.proofs.Words.{cases_le}
use Rattle.cqa_io.specs.Causes.{Rose}
use Rattle.group_stream.specs.declared.ending.Stop.{Stop}
use Rattle.group_stream.specs.declared.ending.Stop.TheVariants as stops
use Rattle.group_stream.specs.declared.ending.StreamEnd.TheVariants as ends
use Rattle.group_stream.specs.Ends.{end_of, end_with}
use Rattle.group_stream.specs.Judges.{CutShort, Judges}
use Rattle.group_stream.specs.Steps.{Breaks, BreaksAtEnd, EndRow, Gathered, GoesOn, PieceRow, Stands}
use Rattle.group_stream.specs.Streams.{Devices, IsAllRead, Streamed, told}
use Rattle.group_stream.proofs.Cutting.{take_short}
use Rattle.group_text.specs.declared.wanted.Wanted.{Wanted}
use Rattle.group_stream.proofs.Going.{cut_for, cut_here, judged_so_far}

-- ---- first bytes

take_joined : (m : ℕ) (xs ys : List ℕ) → length xs ≤ m → take m (xs ++ ys) ≡ xs ++ take (m - length xs) ys
take_joined m [] ys l = let e : m ≡ m - 0 = omega arith in ap (λ k. take k ys) e
take_joined zero (x ∷ xs) ys l = absurd (omega (arith, l))
take_joined (suc m) (x ∷ xs) ys l =
    let e : m - length xs ≡ suc m - length (x ∷ xs) = omega arith in
    ap (λ (zs : List ℕ). x ∷ zs) (take_joined m xs ys (omega (arith, l)) ∙ ap (λ k. xs ++ take k ys) e)

take_fewer : (a n : ℕ) (xs : List ℕ) → a ≤ n → take a (take n xs) ≡ take a xs
take_fewer zero n xs l = refl
take_fewer (suc a) zero xs l = absurd (omega (arith, l))
take_fewer (suc a) (suc n) [] l = refl
take_fewer (suc a) (suc n) (x ∷ xs) l = ap (λ (zs : List ℕ). x ∷ zs) (take_fewer a n xs (omega (arith, l)))

take_least : (a n kept : ℕ) (xs : List ℕ) → kept ≡ min n a → take a (take n xs) ≡ take kept xs
take_least a n kept xs e = elim (cases_le a n) [
  | inl l ↦ let k : a ≡ kept = omega (arith, e, l) in take_fewer a n xs l ∙ ap (λ m. take m xs) k
  | inr l ↦ let k : n ≡ kept = omega (arith, e, l) in take_short a (take n xs) (omega (arith, length-take n xs, l)) ∙ ap (λ m. take m xs) k
]

-- ---- what came so far: so many bytes, of which no more than the limit are looked at

pub record Under (most : ℕ) (wanted : Wanted) (budget : ℕ) (g : Gathered) (l₀ l₁ h₀ h₁ : Option (List ℕ)) (count : ℕ) : Type 0 where
  pub came : List ℕ
  pub written : List ℕ
  pub took : Consumes l₀ l₁ came
  pub put : Appends h₀ h₁ written
  pub count_is : length came ≡ count
  pub stands : Stands wanted budget (take most came) written g

pub under_none : (most : ℕ) (wanted : Wanted) (budget : ℕ) (g : Gathered) (l h : Option (List ℕ)) → Stands wanted budget [] [] g → Under most wanted budget g l l h h 0
under_none most wanted budget g l h s = record {
  came = [];
  written = [];
  took = Consumes-nil l;
  put = Appends-nil h;
  count_is = refl;
  stands = subst (λ (xs : List ℕ). Stands wanted budget xs [] g) (sym (take_short most [] (omega arith))) s;
}

-- what comes within the limit
within : (most count n kept : ℕ) (came piece : List ℕ) → length came ≡ count → count ≤ most → kept ≡ min n (most - count) → take most (came ++ take n piece) ≡ take most came ++ take kept piece
within most count n kept came piece e l k =
    let few : length came ≤ most = omega (arith, e, l) in
    let left : most - length came ≡ most - count = ap (λ x. most - x) e in
    take_joined most came (take n piece) few ∙ ap (λ (xs : List ℕ). came ++ xs) (ap (λ x. take x (take n piece)) left ∙ take_least (most - count) n kept piece k)
    ∙ ap (λ (xs : List ℕ). xs ++ take kept piece) (sym (take_short most came few))

counted : (came piece : List ℕ) (count n : ℕ) → length came ≡ count → n ≤ length piece → length (came ++ take n piece) ≡ count + n
counted came piece count n e l = omega (arith, length-append came (take n piece), length-take n piece, e, l)

-- a piece came, and was taken
pub under_more : (most : ℕ) (wanted : Wanted) (budget : ℕ) (a b : Gathered) (l₀ l₁ l₂ h₀ h₁ h₂ : Option (List ℕ)) (count n kept : ℕ) (piece : List ℕ) → Under most wanted budget a l₀ l₁ h₀ h₁ count → count ≤ most → n ≤ length piece → kept ≡ min n (most - count)
    → Consumes l₁ l₂ (take n piece) → GoesOn a b h₁ h₂ (take kept piece) → Under most wanted budget b l₀ l₂ h₀ h₂ (count + n)
under_more most wanted budget a b l₀ l₁ l₂ h₀ h₁ h₂ count n kept piece u l fits k took goes =
    let went = goes wanted budget (take most u.came) u.written u.stands in
    record {
      came = u.came ++ take n piece;
      written = u.written ++ went.0;
      took = Consumes-trans l₀ l₁ l₂ u.came (take n piece) u.took took;
      put = Appends-trans h₀ h₁ h₂ u.written went.0 u.put went.1;
      count_is = counted u.came piece count n u.count_is fits;
      stands = subst (λ (xs : List ℕ). Stands wanted budget xs (u.written ++ went.0) b) (sym (within most count n kept u.came piece u.count_is l k)) went.2;
    }

-- ---- endings

all_came : (most count : ℕ) (came : List ℕ) → length came ≡ count → count ≤ most → take most came ≡ came
all_came most count came e l = take_short most came (omega (arith, e, l))

-- a read fails
pub read_failed : (wanted : Wanted) (budget : ℕ) (g : Gathered) (l₀ l₁ l₂ h₀ h₁ : Option (List ℕ)) (r₀ r₁ w₀ w₁ count : ℕ) → Under 9223372036854775807 wanted budget g l₀ l₁ h₀ h₁ count → count ≤ 9223372036854775807 → g.out ≡ [] → Keeps l₁ l₂ → Rose r₀ r₁
    → Streamed wanted budget ends.ReadFault (told l₀ h₀ r₀ w₀) (told l₂ h₁ r₁ w₁)
read_failed wanted budget g l₀ l₁ l₂ h₀ h₁ r₀ r₁ w₀ w₁ count u l none keeps rose = record {
  came = u.came;
  written = u.written;
  took = Consumes-kept l₀ l₁ l₂ u.came u.took keeps;
  put = u.put;
  row = (rose, omega (arith, u.count_is, l), (g.refused, so_far));
}
  where
    so_far : Judges wanted budget u.came false u.written g.refused
    so_far =
        subst (λ (xs : List ℕ). Judges wanted budget xs false u.written g.refused) (all_came 9223372036854775807 count u.came u.count_is l)
        (subst (λ (xs : List ℕ). Judges wanted budget (take 9223372036854775807 u.came) false xs g.refused) (ap (λ (xs : List ℕ). u.written ++ xs) none ∙ append-nil u.written)
        (judged_so_far wanted budget (take 9223372036854775807 u.came) u.written g u.stands))

-- one byte more came than is looked at
pub too_long : (wanted : Wanted) (budget : ℕ) (g : Gathered) (l₀ l₁ h₀ h₁ : Option (List ℕ)) (r₀ r₁ w₀ w₁ count : ℕ) → Under 9223372036854775807 wanted budget g l₀ l₁ h₀ h₁ count → count ≡ 9223372036854775808 → g.out ≡ []
    → Streamed wanted budget ends.TooLong (told l₀ h₀ r₀ w₀) (told l₁ h₁ r₁ w₁)
too_long wanted budget g l₀ l₁ h₀ h₁ r₀ r₁ w₀ w₁ count u e none = record {
  came = u.came;
  written = u.written;
  took = u.took;
  put = u.put;
  row = (
    u.count_is ∙ e,
    (
      g.refused,
      subst (λ (xs : List ℕ). Judges wanted budget (take 9223372036854775807 u.came) false xs g.refused) (ap (λ (xs : List ℕ). u.written ++ xs) none ∙ append-nil u.written)
          (judged_so_far wanted budget (take 9223372036854775807 u.came) u.written g u.stands),
    ),
  );
}

-- the answers to a piece stop
pub stopped : (wanted : Wanted) (budget : ℕ) (stop : Stop) (rose : Type 0) (a b : Gathered) (l₀ l₁ l₂ h₀ h₁ h₂ : Option (List ℕ)) (r₀ r₁ w₀ w₁ count n kept : ℕ) (piece : List ℕ) → Under 9223372036854775807 wanted budget a l₀ l₁ h₀ h₁ count → count ≤ 9223372036854775807
    → n ≤ 9223372036854775808 - count → n ≤ length piece → kept ≡ min n (9223372036854775807 - count) → Consumes l₁ l₂ (take n piece) → (rose → Rose w₀ w₁) → PieceRow (Err stop) rose a b h₁ h₂ (take kept piece) → Streamed wanted budget (end_of stop) (told l₀ h₀ r₀ w₀) (told l₂ h₂ r₁ w₁)
stopped wanted budget stop rose a b l₀ l₁ l₂ h₀ h₁ h₂ r₀ r₁ w₀ w₁ count n kept piece u l few fits k took later row = go stop row
  where
    all : List ℕ
    all = u.came ++ take n piece

    now : Devices
    now = told l₂ h₂ r₁ w₁

    short : length all ≤ 9223372036854775808
    short = omega (arith, counted u.came piece count n u.count_is fits, few, l)

    seen : take 9223372036854775807 u.came ++ (take kept piece ++ []) ≡ take 9223372036854775807 all
    seen = ap (λ (xs : List ℕ). take 9223372036854775807 u.came ++ xs) (append-nil (take kept piece)) ∙ sym (within 9223372036854775807 count n kept u.came piece u.count_is l k)

    cut : (breaks : Breaks a h₁ h₂ (take kept piece)) → (written : List ℕ) × Appends h₀ h₂ written × CutShort wanted budget (take 9223372036854775807 all) (IsAllRead now all) written
    cut breaks =
        let q = breaks wanted budget (take 9223372036854775807 u.came) u.written [] u.stands in
        (u.written ++ q.0, Appends-trans h₀ h₁ h₂ u.written q.0 u.put q.1, cut_for wanted budget (take 9223372036854775807 all) ⊥ (IsAllRead now all) (u.written ++ q.0) (λ no. absurd no) (subst (λ (xs : List ℕ). CutShort wanted budget xs ⊥ (u.written ++ q.0)) seen q.2))

    all_took : Consumes l₀ l₂ all
    all_took = Consumes-trans l₀ l₁ l₂ u.came (take n piece) u.took took

    go : (x : Stop) → PieceRow (Err x) rose a b h₁ h₂ (take kept piece) → Streamed wanted budget (end_of x) (told l₀ h₀ r₀ w₀) (told l₂ h₂ r₁ w₁)
    go stops.WriteFault r = let q = cut r.1 in record { came = all; written = q.0; took = all_took; put = q.1; row = (later r.0, short, q.2) }
    go stops.OutOfMemory r = let q = cut r in record { came = all; written = q.0; took = all_took; put = q.1; row = (short, q.2) }

-- the input ends
pub finished : (wanted : Wanted) (budget : ℕ) (r : Result Bool Stop) (rose : Type 0) (a : Gathered) (l₀ l₁ l₂ h₀ h₁ h₂ : Option (List ℕ)) (r₀ r₁ w₀ w₁ count : ℕ) (bytes : List ℕ) → Under 9223372036854775807 wanted budget a l₀ l₁ h₀ h₁ count → count ≤ 9223372036854775807
    → bytes ≡ [] → Consumes l₁ l₂ bytes → IsAtEnd l₂ → (rose → Rose w₀ w₁) → EndRow r rose a h₁ h₂ → Streamed wanted budget (end_with r) (told l₀ h₀ r₀ w₀) (told l₂ h₂ r₁ w₁)
finished wanted budget r rose a l₀ l₁ l₂ h₀ h₁ h₂ r₀ r₁ w₀ w₁ count bytes u l none took end later row = go r row
  where
    same : take 9223372036854775807 u.came ≡ u.came
    same = all_came 9223372036854775807 count u.came u.count_is l

    all_took : Consumes l₀ l₂ u.came
    all_took = subst (Consumes l₀ l₂) (ap (λ (xs : List ℕ). u.came ++ xs) none ∙ append-nil u.came) (Consumes-trans l₀ l₁ l₂ u.came bytes u.took took)

    short : length u.came ≤ 9223372036854775807
    short = omega (arith, u.count_is, l)

    judges : (refused : Bool) (more : List ℕ) → Judges wanted budget (take 9223372036854775807 u.came) true (u.written ++ more) refused → Judges wanted budget u.came true (u.written ++ more) refused
    judges refused more = subst (λ (xs : List ℕ). Judges wanted budget xs true (u.written ++ more) refused) same

    now : Devices
    now = told l₂ h₂ r₁ w₁

    one_more : length u.came ≤ 9223372036854775808
    one_more = omega (arith, short)

    broken : BreaksAtEnd a h₁ h₂ → (written : List ℕ) × Appends h₀ h₂ written × CutShort wanted budget (take 9223372036854775807 u.came) (IsAllRead now u.came) written
    broken breaks =
        let q = breaks wanted budget (take 9223372036854775807 u.came) u.written u.stands in
        (u.written ++ q.0, Appends-trans h₀ h₁ h₂ u.written q.0 u.put q.1, cut_for wanted budget (take 9223372036854775807 u.came) ⊤ (IsAllRead now u.came) (u.written ++ q.0) (λ yes. (end, short)) q.2)

    go : (x : Result Bool Stop) → EndRow x rose a h₁ h₂ → Streamed wanted budget (end_with x) (told l₀ h₀ r₀ w₀) (told l₂ h₂ r₁ w₁)
    go (Ok true) f =
        let q = f wanted budget (take 9223372036854775807 u.came) u.written u.stands in
        record { came = u.came; written = u.written ++ q.0; took = all_took; put = Appends-trans h₀ h₁ h₂ u.written q.0 u.put q.1; row = (end, short, judges true q.0 q.2) }
    go (Ok false) f =
        let q = f wanted budget (take 9223372036854775807 u.came) u.written u.stands in
        record { came = u.came; written = u.written ++ q.0; took = all_took; put = Appends-trans h₀ h₁ h₂ u.written q.0 u.put q.1; row = (end, short, judges false q.0 q.2) }
    go (Err stops.WriteFault) f = let q = broken f.1 in record { came = u.came; written = q.0; took = all_took; put = q.1; row = (later f.0, one_more, q.2) }
    go (Err stops.OutOfMemory) f = let q = broken f in record { came = u.came; written = q.0; took = all_took; put = q.1; row = (one_more, q.2) }

-- memory is refused before anything is read
pub unread : (wanted : Wanted) (budget : ℕ) (g : Gathered) (l h : Option (List ℕ)) (r w : ℕ) → Stands wanted budget [] [] g → Streamed wanted budget ends.OutOfMemory (told l h r w) (told l h r w)
unread wanted budget g l h r w s = record {
  came = [];
  written = [];
  took = Consumes-nil l;
  put = Appends-nil h;
  row = (omega arith, cut_here wanted budget [] [] (IsAllRead (told l h r w) []) [] g [] g.out s refl);
}
