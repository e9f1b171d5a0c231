-- Fewer than 3^n clauses can be new in turn.
use Rattle.std.proofs.Common.{◌≡◌, ℕ, zero, suc, ◌<◌, ◌≤◌, ◌+◌, ◌*◌, ◌^◌, Bool, true, false, cond, List, [], ◌∷◌, ◌++◌, map, inl, inr, refl, sym, ◌∙◌, ap, subst, arith, length, eqb}
use Rattle.std.specs.Prelude.{Contains}
use native.Mathlib.Numerals.{unary_clauses}
use Rattle.std.specs.List.{IsDistinct, AllByRecursion}
use Rattle.std.proofs.lemmas.Bool.{ne_eqb, eqb-true, eq-eqb, cases_eq}
use Rattle.std.proofs.lemmas.Map.Steps.{length-le_from_distinct_below}
use Rattle.std.proofs.lemmas.Map.Views.{Contains-from_any}
use Rattle.std.proofs.lemmas.List.{length-map}
use Rattle.std.proofs.lemmas.List.Elements.{Contains-push, Contains-append_left}
use Rattle.cqa_value.proofs.Words.{mem-tail, mem-cases, mem-head, Contains-from_map}
use Rattle.cnf_form.specs.declared.formula.Lit.{Lit}
use Rattle.cnf_form.specs.Literals.{literals}
use Rattle.cnf_form.specs.declared.log.Step.{Step}
use Rattle.cnf_form.specs.declared.log.Step.TheVariants.{Add, Delete}
use Rattle.cnf_form.specs.Logs.{added}
use Rattle.cnf_form.specs.Spent.{NoVarTwice, IsFit, AreNew, OnlyAdds, SpentLogsEnd}

-- the digit of a variable: 0 absent, 1 positive, 2 negative
abbrev digit_of : Bool → ℕ
digit_of true = 1
digit_of false = 2

digit : List Lit → ℕ → ℕ
digit [] v = 0
digit (l ∷ c) v = cond (eqb l.var v) (digit_of l.positive) (digit c v)

-- the clause as a number, the variables 1 to n its digits
number : ℕ → List Lit → ℕ
number zero c = 0
number (suc n) c = digit c (suc n) + 3 * number n c

digit_small : (c : List Lit) (v : ℕ) → digit c v < 3
unfolding digit
digit_small [] v = omega arith
digit_small (l ∷ c) v = small (eqb l.var v) l.positive (digit c v) (digit_small c v)
  where
    small : (b p : Bool) (d : ℕ) → d < 3 → cond b (digit_of p) d < 3
    small true true d h = omega arith
    small true false d h = omega arith
    small false p d h = h

-- the digit of a literal's variable tells its sign
digit_inside : (c : List Lit) (l : Lit) → NoVarTwice c → Contains c l → digit c l.var ≡ digit_of l.positive
unfolding digit
digit_inside [] l o i = absurd (omega (arith, i.1))
digit_inside (m ∷ c) l o i = elim (mem-cases l m c i) [
  | inl e ↦ ap (λ (b : Bool). cond b (digit_of m.positive) (digit c l.var)) (eq-eqb m.var l.var (ap (λ (x : Lit). x.var) e)) ∙ ap (λ (x : Lit). digit_of x.positive) e
  | inr j ↦ ap (λ (b : Bool). cond b (digit_of m.positive) (digit c l.var)) (ne_eqb m.var l.var (λ e. o.0 (l, j, sym e))) ∙ digit_inside c l o.1 j
]

-- and a digit comes from a literal
digit_found : (c : List Lit) (l : Lit) → digit c l.var ≡ digit_of l.positive → Contains c l
unfolding digit
digit_found [] l e = absurd (none l.positive e)
  where
    none : (p : Bool) → (let z : ℕ = 0 in z ≡ digit_of p) → ⊥
    none true e = omega arith
    none false e = omega arith
digit_found (m ∷ c) l e = elim (cases_eq m.var l.var) [
  | inl q ↦
      let f : digit_of m.positive ≡ digit_of l.positive = sym (ap (λ (b : Bool). cond b (digit_of m.positive) (digit c l.var)) (eq-eqb m.var l.var q)) ∙ e in
      subst (λ (x : Lit). Contains (m ∷ c) x) (same m l q (sign m.positive l.positive f)) (mem-head m c)
  | inr n ↦ mem-tail l m c (digit_found c l (sym (ap (λ (b : Bool). cond b (digit_of m.positive) (digit c l.var)) (ne_eqb m.var l.var n)) ∙ e))
]
  where
    sign : (p q : Bool) → digit_of p ≡ digit_of q → p ≡ q
    sign true true e = refl
    sign true false e = absurd (omega arith)
    sign false true e = absurd (omega arith)
    sign false false e = refl

    same : (x y : Lit) → x.var ≡ y.var → x.positive ≡ y.positive → x ≡ y
    same x y e p =
        ap (λ (n : ℕ). let r : Lit = record { var = n; positive = x.positive } in r) e
        ∙ ap (λ (b : Bool). let r : Lit = record { var = y.var; positive = b } in r) p

-- equal numbers have equal digits
digits_same : (n : ℕ) (c d : List Lit) → number n c ≡ number n d → (v : ℕ) → 1 ≤ v → v ≤ n → digit c v ≡ digit d v
unfolding number
digits_same zero c d e v h k = absurd (omega arith)
digits_same (suc n) c d e v h k =
    let p = digit_small c (suc n) in let q = digit_small d (suc n) in
    let lo : digit c (suc n) ≡ digit d (suc n) = low (digit c (suc n)) (digit d (suc n)) (number n c) (number n d) p q e in
    let hi : number n c ≡ number n d = omega (arith, lo, e) in
    elim (cases_eq v (suc n)) [
      | inl s ↦ subst (λ (x : ℕ). digit c x ≡ digit d x) (sym s) lo
      | inr ne ↦ digits_same n c d hi v h (omega arith)
    ]
  where
    low : (a b x y : ℕ) → a < 3 → b < 3 → a + 3 * x ≡ b + 3 * y → a ≡ b
    low a b x y p q e = omega arith

number_small : (n : ℕ) (c : List Lit) → number n c < 3 ^ n
unfolding number
number_small zero c = omega arith
number_small (suc n) c = simp unary_clauses (step (digit c (suc n)) (number n c) (3 ^ n) (digit_small c (suc n)) (number_small n c))
  where
    step : (a x m : ℕ) → a < 3 → x < m → a + 3 * x < m * 3
    step a x m h k = omega arith

-- a clause with the digits of another is a subset of it
subset_same : (n : ℕ) (c d : List Lit) → IsFit n c → number n c ≡ number n d → (l : Lit) → Contains c l → Contains d l
subset_same n c d f e l i =
    let r = f.range l i in
    digit_found d l (sym (digits_same n c d e l.var r.0 r.1) ∙ digit_inside c l f.once i)

number_empty : (k : ℕ) → number k [] ≡ 0
unfolding number digit
number_empty zero = refl
number_empty (suc k) = let r = number_empty k in omega (arith, r)

number_not_zero : (n : ℕ) (c : List Lit) → IsFit n c → number n c ≡ 0 → ⊥
number_not_zero n c f e =
    let l = f.some in
    let i : Contains [] l.0 = subset_same n c [] f (e ∙ sym (number_empty n)) l.0 l.1 in
    omega (arith, i.1)

later_new : (n : ℕ) (db cs : List (List Lit)) (c d : List Lit) → AreNew n db cs → Contains db c → Contains cs d → ((m : Lit) → Contains c m → Contains d m) → ⊥
later_new n db [] c d a i j sub = omega (arith, j.1)
later_new n db (x ∷ xs) c d a i j sub = elim (mem-cases d x xs j) [
  | inl e ↦ a.1 c i (λ m k. subst (λ (y : List Lit). Contains y m) (sym e) (sub m k))
  | inr r ↦ later_new n (db ++ x ∷ []) xs c d a.2 (Contains-append_left db (x ∷ []) c i) r sub
]

each_fit : (n : ℕ) (db cs : List (List Lit)) → AreNew n db cs → (c : List Lit) → Contains cs c → IsFit n c
each_fit n db [] a c i = absurd (omega (arith, i.1))
each_fit n db (x ∷ xs) a c i = elim (mem-cases c x xs i) [
  | inl e ↦ subst (λ (y : List Lit). IsFit n y) e a.0
  | inr r ↦ each_fit n (db ++ x ∷ []) xs a.2 c r
]

pub none_of : (x : ℕ) (ys : List ℕ) → ((y : ℕ) → Contains ys y → x ≡ y → ⊥) → AllByRecursion (λ y. eqb x y ≡ false) ys
none_of x [] f = tt
none_of x (y ∷ ys) f = (ne_eqb x y (f y (mem-head y ys)), none_of x ys (λ z i. f z (mem-tail z y ys i)))

distinct_numbers : (n : ℕ) (db cs : List (List Lit)) → AreNew n db cs → IsDistinct eqb (map (number n) cs)
unfolding IsDistinct
distinct_numbers n db [] a = tt
distinct_numbers n db (c ∷ cs) a = (
  none_of (number n c) (map (number n) cs) (λ y i e.
      let q = Contains-from_map (number n) cs y i in
      later_new n (db ++ c ∷ []) cs c q.0 a.2 (Contains-push db c) q.1 (subset_same n c q.0 a.0 (e ∙ sym q.2))),
  distinct_numbers n (db ++ c ∷ []) cs a.2,
)

-- The law: fewer than 3^n.
pub law : (n : ℕ) (db cs : List (List Lit)) → AreNew n db cs → length cs < 3 ^ n
unfolding IsDistinct
law n db cs a =
    let ns = map (number n) cs in
    let zero_apart : AllByRecursion (λ y. eqb 0 y ≡ false) ns = none_of 0 ns (λ y i e.
    let q = Contains-from_map (number n) cs y i in number_not_zero n q.0 (each_fit n db cs a q.0 q.1) (q.2 ∙ sym e)) in
    let distinct : IsDistinct eqb (0 ∷ ns) = (zero_apart, distinct_numbers n db cs a) in
    let bound : length (0 ∷ ns) ≤ 3 ^ n = length-le_from_distinct_below (0 ∷ ns) (3 ^ n) distinct (λ q h. below q (Contains-from_any eqb-true q (0 ∷ ns) h)) in
    let len = length-map cs (number n) in
    omega (arith, bound, len)
  where
    positive : (k : ℕ) → 0 < 3 ^ k
    positive k = let r = number_small k [] in omega (arith, r)

    below : (q : ℕ) → Contains (0 ∷ map (number n) cs) q → q < 3 ^ n
    below q i = elim (mem-cases q 0 (map (number n) cs) i) [
      | inl e ↦ let p = positive n in omega (arith, p, e)
      | inr r ↦ let x = Contains-from_map (number n) cs q r in let s = number_small n x.0 in omega (arith, s, x.2)
    ]

added_count : (steps : List Step) → OnlyAdds steps → length (added steps) ≡ length steps
added_count [] a = refl
added_count (Add id clause hints ∷ steps) a = let r = added_count steps a in omega (arith, r)
added_count (Delete ids ∷ steps) a = absurd a

pub spent_logs_end : SpentLogsEnd
spent_logs_end cnf budget steps s =
    let few : length (added steps) < 3 ^ cnf.vars = law cnf.vars (literals cnf.clauses) (added steps) s.new in
    let count = added_count steps s.adds in
    omega (arith, few, count, s.count)
