-- Numbers as they are written and read.
use Rattle.std.proofs.Common.{◌≡◌, ℕ, ◌<◌, ◌≤◌, ◌+◌, ◌*◌, ◌-◌, ◌^◌, Bool, true, false, cond, List, [], ◌∷◌, refl, ◌∙◌, ap, arith, length, Some, None}
use Rattle.std.specs.Prelude.{option_map, option_and_then}
use Rattle.std.specs.Fmt.{decimal}
use Rattle.std.specs.Str.Parse.{AllDigits, digits_value_after}
use Rattle.std.specs.Char.{digit_value}
use Rattle.std.proofs.lemmas.Str.{digit_value_digit}
use Rattle.std.proofs.lemmas.Str.Parse.{digit_from_value}
use Rattle.std.proofs.lemmas.Fmt.{decimal_is_IsNumeral}
use Rattle.std.proofs.lemmas.Bool.{ne_eqb}
use Rattle.std.proofs.lemmas.Grind.{common_steps}
use Rattle.cnf_form.specs.Lines.{ends_token}
use Rattle.cnf_form.specs.Numbers.{at_most, bounded, digits_after, is_digit, number_of, signed_of, unsigned_of, without_sign}

digit_is : (b : ℕ) → 48 ≤ b → b ≤ 57 → is_digit b ≡ true
digit_is b l h = grind (arith, common_steps)

digit_goes_on : (b : ℕ) → 48 ≤ b → b ≤ 57 → ends_token b ≡ false
digit_goes_on b l h = grind (arith, common_steps)

-- no byte ends a token
abbrev pub NoEnds : List ℕ → Type 0
NoEnds [] = Unit {0}
NoEnds (b ∷ bs) = (ends_token b ≡ false) × NoEnds bs

pub digits_no_ends : (ds : List ℕ) → AllDigits 10 ds → NoEnds ds
digits_no_ends [] d = tt
digits_no_ends (c ∷ cs) d = let k = digit_from_value c d.0 in (digit_goes_on c k.0 k.1, digits_no_ends cs d.1)

digits_are : (n : ℕ) (ds : List ℕ) → AllDigits 10 ds → digits_after n ds ≡ Some (digits_value_after 10 n ds)
digits_are n [] d = refl
digits_are n (c ∷ cs) d =
    let k = digit_from_value c d.0 in let v = digit_value_digit c k in
    let e : 10 * n + (c - 48) ≡ n * 10 + digit_value c = omega (arith, v) in
    ap (λ (b : Bool). cond b (digits_after (10 * n + (c - 48)) cs) None) (digit_is c k.0 k.1) ∙ ap (λ (m : ℕ). digits_after m cs) e ∙ digits_are (n * 10 + digit_value c) cs d.1

pub fits : (limit n : ℕ) → n ≤ limit → at_most limit n ≡ Some n
fits limit n h = grind (arith, common_steps)

some_number : (limit : ℕ) (ds : List ℕ) → 0 < length ds → number_of limit ds ≡ bounded limit ds
some_number limit [] h = absurd (omega (arith, h))
some_number limit (d ∷ ds) h = refl

pub decimal_number : (limit n : ℕ) → n ≤ limit → n < 2 ^ 64 → number_of limit (decimal n) ≡ Some n
decimal_number limit n h s = let k = decimal_is_IsNumeral n s in
    some_number limit (decimal n) k.0.0 ∙ ap (option_and_then (at_most limit)) (digits_are 0 (decimal n) k.0.1 ∙ ap (λ (m : ℕ). Some m) k.1) ∙ fits limit n h

no_minus : (limit : ℕ) (ds : List ℕ) → 0 < length ds → AllDigits 10 ds → signed_of limit ds ≡ option_map (λ n. (false, n)) (number_of limit ds)
no_minus limit [] h d = absurd (omega (arith, h))
no_minus limit (b ∷ ds) h d =
    let k = digit_from_value b d.0 in
    let n : b ≡ 45 → ⊥ = λ e. omega (arith, e, k.0) in
    ap (λ (c : Bool). cond c (option_map (λ n. (true, n)) (number_of limit ds)) (option_map (λ n. (false, n)) (number_of limit (b ∷ ds)))) (ne_eqb b 45 n)

pub decimal_signed : (limit n : ℕ) → n ≤ limit → n < 2 ^ 64 → signed_of limit (decimal n) ≡ Some (false, n)
decimal_signed limit n h s = let k = decimal_is_IsNumeral n s in
    no_minus limit (decimal n) k.0.0 k.0.1 ∙ ap (option_map (λ n. (false, n))) (decimal_number limit n h s)

pub minus_signed : (limit n : ℕ) → n ≤ limit → n < 2 ^ 64 → signed_of limit (45 ∷ decimal n) ≡ Some (true, n)
minus_signed limit n h s = ap (option_map (λ n. (true, n))) (decimal_number limit n h s)

pub decimal_unsigned : (limit n : ℕ) → n ≤ limit → n < 2 ^ 64 → unsigned_of limit (decimal n) ≡ Some n
decimal_unsigned limit n h s = ap (option_and_then (λ z. without_sign z.0 z.1)) (decimal_signed limit n h s)

pub decimal_some : (n : ℕ) → n < 2 ^ 64 → 0 < length (decimal n)
decimal_some n s = (decimal_is_IsNumeral n s).0.0

pub decimal_no_ends : (n : ℕ) → n < 2 ^ 64 → NoEnds (decimal n)
decimal_no_ends n s = digits_no_ends (decimal n) (decimal_is_IsNumeral n s).0.1

first_digit : (ds : List ℕ) → 0 < length ds → AllDigits 10 ds → (b : ℕ) × (bs : List ℕ) × (ds ≡ b ∷ bs) × (b < 58)
first_digit [] h d = absurd (omega (arith, h))
first_digit (b ∷ bs) h d = let k = digit_from_value b d.0 in (b, bs, refl, omega (arith, k.1))

-- a number begins with a digit
pub decimal_begins : (n : ℕ) → n < 2 ^ 64 → (b : ℕ) × (bs : List ℕ) × (decimal n ≡ b ∷ bs) × (b < 58)
decimal_begins n s = let k = decimal_is_IsNumeral n s in first_digit (decimal n) k.0.0 k.0.1
