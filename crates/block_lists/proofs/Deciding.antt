-- The formula of lists of rows of blocks decides as choices do.
use Rattle.std.proofs.Common.{◌≡◌, ℕ, zero, suc, ◌<◌, ◌+◌, ◌-◌, ◌⊎◌, inl, inr, List, [], ◌∷◌, get_or, map, take, drop, suc-le-suc, Some, slice_get, refl, sym, ◌∙◌, ap, subst, arith, Contains, Bool, true, false}
use native.Mathlib.Decide.{ℕ_discrete}
use Rattle.std.specs.List.{AllZip, range_with_len}
use Rattle.std.proofs.lemmas.List.{get_or-drop}
use Rattle.std.proofs.lemmas.List.Elements.{Contains-append_left, Contains-append_right, Contains-append_cases}
use Rattle.cqa_value.proofs.Words.{clash, is_yes, yes_of, no_of, mem-head, mem-tail, mem-nil, mem-cases, Contains-map, Contains-from_map, Contains-range, in_range}
use Rattle.cnf_form.specs.declared.formula.Lit.{Lit}
use Rattle.cnf_form.specs.Literals.{positive, negative, MakesTrue, Satisfies, SatisfiesAll}
use Rattle.block_choices.specs.declared.row.BlockRow.{BlockRow}
use Rattle.block_choices.specs.Choices.{IsChoice, Chooses, HoldsWhole, HoldsSome, IsForcedBy, AreThere}
use Rattle.block_lists.specs.Formulas.{number, blocks_from, AreNumbersIn, group_clauses}
use Rattle.block_lists.specs.Picks.{first_true, first_trues}
use Rattle.block_lists.specs.Laws.{GroupDecides, PicksAvoid}
use Rattle.cdcl.specs.Outcomes.{assignment}
use Rattle.block_lists.proofs.Decisions.{Option-dec, stable, dec_each, dec_some, find_in}

-- ---- numbers

number-above : (n : ℕ) (sizes : List ℕ) (b r : ℕ) → r < get_or sizes b 0 → n < number n sizes b r
number-above n [] b r l = absurd (omega (arith, l))
number-above n (s ∷ sizes) zero r l = omega arith
number-above n (s ∷ sizes) (suc b) r l = let h = number-above (n + s) sizes b r l in omega (arith, h)

-- a number is that of one row
one-number : (n : ℕ) (sizes : List ℕ) (b c r q : ℕ) → r < get_or sizes b 0 → q < get_or sizes c 0 → number n sizes b r ≡ number n sizes c q → (b ≡ c) × (r ≡ q)
one-number n [] b c r q l k e = absurd (omega (arith, l))
one-number n (s ∷ sizes) zero zero r q l k e = (refl, omega (arith, e))
one-number n (s ∷ sizes) zero (suc c) r q l k e = let h = number-above (n + s) sizes c q k in absurd (omega (arith, h, l, e))
one-number n (s ∷ sizes) (suc b) zero r q l k e = let h = number-above (n + s) sizes b r l in absurd (omega (arith, h, k, e))
one-number n (s ∷ sizes) (suc b) (suc c) r q l k e = let h = one-number (n + s) sizes b c r q l k e in (ap suc h.0, h.1)

-- ---- lists, item by item

zip-right : {A B : Type 0} (R : A → B → Type 0) (xs : List A) (ys : List B) → AllZip R xs ys → (x : A) → Contains xs x → (y : B) × Contains ys y × R x y
zip-right R [] ys h x m = absurd (mem-nil x m)
zip-right R (z ∷ xs) [] h x m = absurd h
zip-right R (z ∷ xs) (y ∷ ys) h x m = elim (mem-cases x z xs m) [
  | inl e ↦ (y, mem-head y ys, subst (λ w. R w y) e h.0)
  | inr i ↦ let k = zip-right R xs ys h.1 x i in (k.0, mem-tail k.0 y ys k.1, k.2)
]

pub zip-left : {A B : Type 0} (R : A → B → Type 0) (xs : List A) (ys : List B) → AllZip R xs ys → (y : B) → Contains ys y → (x : A) × Contains xs x × R x y
zip-left R xs [] h y m = absurd (mem-nil y m)
zip-left R [] (z ∷ ys) h y m = absurd h
zip-left R (x ∷ xs) (z ∷ ys) h y m = elim (mem-cases y z ys m) [
  | inl e ↦ (x, mem-head x xs, subst (R x) e h.0)
  | inr i ↦ let k = zip-left R xs ys h.1 y i in (k.0, mem-tail k.0 x xs k.1, k.2)
]

-- ---- from assignments to choices

-- a true row of a block
of_block : (v : ℕ → Bool) (n s : ℕ) → Satisfies v (map positive (range_with_len (suc n) s)) → (r : ℕ) × (r < s) × (v (suc (n + r)) ≡ true)
of_block v n s h =
    let p = Contains-from_map positive (range_with_len (suc n) s) h.0 h.1 in
    let k = in_range (suc n) s p.0 p.1 in
    let low = k.0 in
    let high = k.1 in
    let here : v p.0 ≡ true = subst (MakesTrue v) (sym p.2) h.2 in
    let at : p.0 ≡ suc (n + (p.0 - suc n)) = omega (arith, low) in
    (p.0 - suc n, omega (arith, low, high), subst (λ m. v m ≡ true) at here)

-- the chosen rows are true
abbrev AreTrue : (ℕ → Bool) → ℕ → List ℕ → List ℕ → Type 0
AreTrue v n sizes c = (b r : ℕ) → slice_get c b ≡ Some r → v (number n sizes b r) ≡ true

some-inj : (x y : ℕ) → Some x ≡ Some y → x ≡ y
some-inj x y e = cc

abbrev nil : List ℕ
nil = []

none-some : (b r : ℕ) → slice_get nil b ≡ Some r → ⊥
none-some b r e = cc

-- the first true row of a block that has one
first : (s : ℕ) (values : List Bool) (r : ℕ) → r < s → get_or values r false ≡ true → (first_true (take s values) < s) × (get_or values (first_true (take s values)) false ≡ true)
first zero values r l e = absurd (omega (arith, l))
first (suc s) [] r l e = absurd (clash false e refl)
first (suc s) (true ∷ values) r l e = (omega arith, refl)
first (suc s) (false ∷ values) zero l e = absurd (clash false e refl)
first (suc s) (false ∷ values) (suc r) l e = let h = first s values r (omega (arith, l)) e in (suc-le-suc h.0, h.1)

-- the values of the rows, where n variables come before
abbrev pub AreValues : (ℕ → Bool) → ℕ → List Bool → Type 0
AreValues v n values = (i : ℕ) → v (suc (n + i)) ≡ get_or values i false

-- the first true rows are a choice
pub firsts : (v : ℕ → Bool) (n : ℕ) (sizes : List ℕ) (values : List Bool) → AreValues v n values → ((numbers : List ℕ) → Contains (blocks_from n sizes) numbers → Satisfies v (map positive numbers)) →
    IsChoice sizes (first_trues sizes values) × AreTrue v n sizes (first_trues sizes values)
firsts v n [] values is sat = (tt, λ b r e. absurd (none-some b r e))
firsts v n (s ∷ sizes) values is sat =
    let one = of_block v n s (sat (range_with_len (suc n) s) (mem-head (range_with_len (suc n) s) (blocks_from (n + s) sizes))) in
    let here = first s values one.0 one.1 (sym (is one.0) ∙ one.2) in
    let rest = firsts v (n + s) sizes (drop s values) later (λ ns m. sat ns (mem-tail ns (range_with_len (suc n) s) (blocks_from (n + s) sizes) m)) in
    ((here.0, rest.0), at here.1 rest.1)
  where
    later : AreValues v (n + s) (drop s values)
    later i = let e : suc (n + s + i) ≡ suc (n + (s + i)) = omega arith in ap v e ∙ (is (s + i) ∙ sym (get_or-drop s values i false))

    at : get_or values (first_true (take s values)) false ≡ true → AreTrue v (n + s) sizes (first_trues sizes (drop s values)) → (b r : ℕ) → slice_get (first_trues (s ∷ sizes) values) b ≡ Some r → v (number n (s ∷ sizes) b r) ≡ true
    at here rest zero r e = subst (λ m. v (suc (n + m)) ≡ true) (some-inj (first_true (take s values)) r e) (is (first_true (take s values)) ∙ here)
    at here rest (suc b) r e = rest b r e

picked : (v : ℕ → Bool) (n : ℕ) (sizes : List ℕ) → ((numbers : List ℕ) → Contains (blocks_from n sizes) numbers → Satisfies v (map positive numbers)) → (c : List ℕ) × IsChoice sizes c × AreTrue v n sizes c
picked v n [] sat = ([], tt, λ b r e. absurd (none-some b r e))
picked v n (s ∷ sizes) sat =
    let here = of_block v n s (sat (range_with_len (suc n) s) (mem-head (range_with_len (suc n) s) (blocks_from (n + s) sizes))) in
    let rest = picked v (n + s) sizes (λ ns m. sat ns (mem-tail ns (range_with_len (suc n) s) (blocks_from (n + s) sizes) m)) in
    (here.0 ∷ rest.0, (here.1, rest.1), at here.0 here.2 rest.0 rest.2)
  where
    at : (q : ℕ) → v (suc (n + q)) ≡ true → (c : List ℕ) → AreTrue v (n + s) sizes c → AreTrue v n (s ∷ sizes) (q ∷ c)
    at q e c h zero r i = subst (λ m. v (suc (n + m)) ≡ true) (some-inj q r i) e
    at q e c h (suc b) r i = h b r i

-- ---- from choices to assignments

-- the numbers of the chosen rows
abbrev chosen_numbers : ℕ → List ℕ → List ℕ → List ℕ
chosen_numbers n [] c = []
chosen_numbers n (s ∷ sizes) [] = []
chosen_numbers n (s ∷ sizes) (r ∷ c) = suc (n + r) ∷ chosen_numbers (n + s) sizes c

-- a row that is chosen of its block
abbrev IsOfChoice : ℕ → List ℕ → List ℕ → ℕ → Type 0
IsOfChoice n sizes c m = (b : ℕ) × (r : ℕ) × (slice_get c b ≡ Some r) × (r < get_or sizes b 0) × (number n sizes b r ≡ m)

from_numbers : (n : ℕ) (sizes c : List ℕ) → IsChoice sizes c → (m : ℕ) → Contains (chosen_numbers n sizes c) m → IsOfChoice n sizes c m
from_numbers n [] c k m i = absurd (mem-nil m i)
from_numbers n (s ∷ sizes) [] k m i = absurd k
from_numbers n (s ∷ sizes) (r ∷ c) k m i = elim (mem-cases m (suc (n + r)) (chosen_numbers (n + s) sizes c) i) [
  | inl e ↦ (0, r, refl, k.0, e)
  | inr j ↦ let h = from_numbers (n + s) sizes c k.1 m j in (suc h.0, h.1, h.2, h.3, h.4)
]

-- each block has a chosen row
in_block : (n : ℕ) (sizes c : List ℕ) → IsChoice sizes c → (numbers : List ℕ) → Contains (blocks_from n sizes) numbers → (m : ℕ) × Contains numbers m × Contains (chosen_numbers n sizes c) m
in_block n [] c k numbers i = absurd (mem-nil numbers i)
in_block n (s ∷ sizes) [] k numbers i = absurd k
in_block n (s ∷ sizes) (r ∷ c) k numbers i = elim (mem-cases numbers (range_with_len (suc n) s) (blocks_from (n + s) sizes) i) [
  | inl e ↦ (let l = k.0 in (suc (n + r), subst (λ ns. Contains ns (suc (n + r))) e (Contains-range (suc n) s (suc (n + r)) (omega arith) (omega (arith, l))), mem-head (suc (n + r)) (chosen_numbers (n + s) sizes c)))
  | inr j ↦ let h = in_block (n + s) sizes c k.1 numbers j in (h.0, h.1, mem-tail h.0 (suc (n + r)) (chosen_numbers (n + s) sizes c) h.2)
]

module _ (sizes : List ℕ) (lists : List (List BlockRow)) (numbers : List (List ℕ)) (zip : AllZip (AreNumbersIn sizes) lists numbers) (v : ℕ → Bool) (sat : SatisfiesAll v (group_clauses sizes numbers)) where
  of_blocks : (ns : List ℕ) → Contains (blocks_from 0 sizes) ns → Satisfies v (map positive ns)
  of_blocks ns m = sat (map positive ns) (Contains-append_left (map (map positive) (blocks_from 0 sizes)) (map (map negative) numbers) (map positive ns) (Contains-map (map positive) (blocks_from 0 sizes) ns m))

  -- true rows hold no list whole
  not_held : (c : List ℕ) → AreTrue v 0 sizes c → HoldsSome c lists → ⊥
  not_held c are_true (names, m, whole) = of_numbers (zip-right (AreNumbersIn sizes) lists numbers zip names m)
    where
      of_numbers : ((ns : List ℕ) × Contains numbers ns × AreNumbersIn sizes names ns) → ⊥
      of_numbers (ns, mn, are) = of_lit (sat (map negative ns) (Contains-append_right (map (map positive) (blocks_from 0 sizes)) (map (map negative) numbers) (map negative ns) (Contains-map (map negative) numbers ns mn)))
        where
          of_lit : Satisfies v (map negative ns) → ⊥
          of_lit (l, ml, e) =
              let p = Contains-from_map negative ns l ml in
              let no : v p.0 ≡ false = subst (MakesTrue v) (sym p.2) e in
              let x = (are.exactly p.0).0 p.1 in
              clash (v p.0) (subst (λ k. v k ≡ true) x.2 (are_true x.0.block x.0.row (whole x.0 x.1))) no

  unsatisfied : IsForcedBy sizes lists → ⊥
  unsatisfied forced = let c = picked v 0 sizes of_blocks in not_held c.0 c.2 (forced c.0 c.1)

module _ (sizes : List ℕ) (lists : List (List BlockRow)) (numbers : List (List ℕ)) (there : AreThere sizes lists) (zip : AllZip (AreNumbersIn sizes) lists numbers) where
  forced_of : ((v : ℕ → Bool) → SatisfiesAll v (group_clauses sizes numbers) → ⊥) → IsForcedBy sizes lists
  forced_of unsat c k = stable (dec_some (HoldsWhole c) (λ names. dec_each (Chooses c) (λ x. Option-dec (slice_get c x.block) x.row) names) lists) (λ none. unsat v (satisfied none))
    where
      dec_chosen : (m : ℕ) → Dec ((x : ℕ) × Contains (chosen_numbers 0 sizes c) x × (x ≡ m))
      dec_chosen m = dec_some (λ x. x ≡ m) (λ x. ℕ_discrete x m) (chosen_numbers 0 sizes c)

      v : ℕ → Bool
      v m = is_yes (dec_chosen m)

      is_chosen : (x : BlockRow) → x.row < get_or sizes x.block 0 → ((m : ℕ) × Contains (chosen_numbers 0 sizes c) m × (m ≡ number 0 sizes x.block x.row)) → Chooses c x
      is_chosen x l (m, i, e) =
          let h = from_numbers 0 sizes c k m i in
          let same = one-number 0 sizes h.0 x.block h.1 x.row h.3 l (h.4 ∙ e) in
          subst (λ b. slice_get c b ≡ Some x.row) same.0 (h.2 ∙ ap Some same.1)

      satisfied : (HoldsSome c lists → ⊥) → SatisfiesAll v (group_clauses sizes numbers)
      satisfied none d m = elim (Contains-append_cases (map (map positive) (blocks_from 0 sizes)) (map (map negative) numbers) d m) [
        | inl i ↦ block d (Contains-from_map (map positive) (blocks_from 0 sizes) d i)
        | inr i ↦ list d (Contains-from_map (map negative) numbers d i)
      ]
        where
          block : (d : List Lit) → ((ns : List ℕ) × Contains (blocks_from 0 sizes) ns × (map positive ns ≡ d)) → Satisfies v d
          block d (ns, i, e) =
              let h = in_block 0 sizes c k ns i in
              subst (Satisfies v) e (positive h.0, Contains-map positive ns h.0 h.1, yes_of (dec_chosen h.0) (h.0, h.2, refl))

          list : (d : List Lit) → ((ns : List ℕ) × Contains numbers ns × (map negative ns ≡ d)) → Satisfies v d
          list d (ns, i, e) = of_names (zip-left (AreNumbersIn sizes) lists numbers zip ns i)
            where
              of_names : ((names : List BlockRow) × Contains lists names × AreNumbersIn sizes names ns) → Satisfies v d
              of_names (names, mn, are) = go (find_in (Chooses c) (λ x. Option-dec (slice_get c x.block) x.row) names)
                where
                  go : ((x : BlockRow) → Contains names x → Chooses c x) ⊎ ((x : BlockRow) × Contains names x × (Chooses c x → ⊥)) → Satisfies v d
                  go (inl whole) = absurd (none (names, mn, whole))
                  go (inr (x, mx, f)) =
                      let n = number 0 sizes x.block x.row in
                      subst (Satisfies v) e (negative n, Contains-map negative ns n ((are.exactly n).1 (x, mx, refl)), no_of (dec_chosen n) (λ h. f (is_chosen x (there names mn x mx) h)))

pub group_decides : GroupDecides
group_decides sizes lists cnf there f = (
  λ forced v sat. unsatisfied sizes lists f.numbers f.numbered v (subst (SatisfiesAll v) f.clauses sat) forced,
  λ none. forced_of sizes lists f.numbers there f.numbered (λ v sat. none v (subst (SatisfiesAll v) (sym f.clauses) sat)),
)

pub picks_avoid : PicksAvoid
picks_avoid sizes lists cnf values f m = record { choice = c.0; avoids = not_held sizes lists f.numbers f.numbered v sat (first_trues sizes values) c.1 }
  where
    v : ℕ → Bool
    v = assignment values

    sat : SatisfiesAll v (group_clauses sizes f.numbers)
    sat = subst (SatisfiesAll v) f.clauses m.1

    are : AreValues v 0 values
    are i = ap (λ (k : ℕ). get_or values k false) (omega arith)

    c : IsChoice sizes (first_trues sizes values) × AreTrue v 0 sizes (first_trues sizes values)
    c = firsts v 0 sizes values are (of_blocks sizes lists f.numbers f.numbered v sat)
