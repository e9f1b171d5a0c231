-- Which integer digits write, with a `-` in front or without.
use mir.Syntax.{w64}
use Rattle.std.proofs.Common.{◌≡◌, ◌==◌, ◌<◌, ◌^◌, ◌+◌, ℕ, zero, suc, Bool, true, false, cond, ◌&&◌, List, [], ◌∷◌, length, take, drop, slice_index, ℤ, pos, negsuc, neg_ℤ, ◌+ℤ◌, ◌-ℤ◌, Option, Some, None, FitsSigned, refl, sym, ap, subst, ◌∙◌, arith}
use Rattle.std.proofs.Math.IntN.{+ℤ_idl}
use Rattle.std.proofs.lemmas.Bool.Decides.{Decides-eqb, Decides-ltb}
use Rattle.std.proofs.lemmas.Fmt.{decimal_is_IsNumeral}
use Rattle.std.proofs.lemmas.Int.Digits.{digits_value_more}
use Rattle.std.proofs.lemmas.Str.Parse.{IsNumeralModel, numerals_by_value, tells_all_ascii_digits, digit_from_value, digit_at, digits_value-take-le}
use Rattle.std.specs.Char.{digit_value}
use Rattle.std.specs.Fmt.{decimal, signed_decimal}
use Rattle.std.specs.Int.{IsInRange}
use Rattle.std.specs.Option.{SomeIff}
use Rattle.std.specs.Str.{all_ascii_digits}
use Rattle.std.specs.Str.Parse.{IsNumeral, digits_value}
use Rattle.cqa_value.specs.Literals.{are_digits, has_minus, is_in_range, int_of}

-- the crate's test for digits is std's
own : IsNumeralModel (λ digits. all_ascii_digits digits ≡ true) (digits_value 10)
own = numerals_by_value (λ digits. all_ascii_digits digits ≡ true) tells_all_ascii_digits

numeral_from : (digits : List ℕ) → are_digits digits ≡ true → IsNumeral 10 digits
numeral_from [] e = absurd (cc)
numeral_from (digit ∷ digits) e = (omega arith, own.to (digit ∷ digits) e)

numeral_to : (digits : List ℕ) → IsNumeral 10 digits → are_digits digits ≡ true
numeral_to [] n = absurd (omega (arith, n.0))
numeral_to (digit ∷ digits) n = own.from (digit ∷ digits) n.1

pub fits_from : (z : ℤ) → is_in_range z ≡ true → FitsSigned w64 z
fits_from (pos n) e = record { sfits = (Decides-ltb n (2 ^ 63)).0 e }
fits_from (negsuc n) e = record { sfits = (Decides-ltb n (2 ^ 63)).0 e }

pub fits_to : (z : ℤ) → FitsSigned w64 z → is_in_range z ≡ true
fits_to (pos n) f = (Decides-ltb n (2 ^ 63)).1 f.sfits
fits_to (negsuc n) f = (Decides-ltb n (2 ^ 63)).1 f.sfits

-- a byte that is no digit stands in no numeral
pub no_numeral : (digits : List ℕ) (i : ℕ) → i < length digits → IsNumeral 10 digits → (IsInRange 48 57 (slice_index digits i) → ⊥) → ⊥
no_numeral digits i within is deny = deny (digit_at digits i is.1 within)

-- a digit behind a number that is too great
pub too_great : (digits : List ℕ) (i : ℕ) → i < length digits → 922_337_203_685_477_580 < digits_value 10 (take i digits) → 2 ^ 63 < digits_value 10 digits
too_great digits i within great = omega (arith, digits_value_more 10 digits i within, digits_value-take-le 10 digits (i + 1) (omega arith))

-- both tests pass, or the result is none
given : (digits range : Bool) (x z : ℤ) → digits ≡ true → range ≡ true → x ≡ z → Some x ≡ cond (digits && range) (Some z) None
given true true x z d r e = ap Some e
given true false x z d r e = absurd (cc)
given false range x z d r e = absurd (cc)

refused : (digits range : Bool) (z : ℤ) → (digits ≡ true → range ≡ true → ⊥) → None ≡ cond (digits && range) (Some z) None
refused true true z deny = absurd (deny refl refl)
refused true false z deny = refl
refused false range z deny = refl

-- no integer in range
deny_range : (z : ℤ) → (FitsSigned w64 z → ⊥) → is_in_range z ≡ true → ⊥
deny_range z deny range = deny (fits_from z range)

over : (number : ℕ) → 2 ^ 63 < number → (FitsSigned w64 (pos number) → ⊥) × (FitsSigned w64 (neg_ℤ (pos number)) → ⊥)
over (suc number) great = (λ f. omega (arith, f.sfits), λ f. omega (arith, f.sfits))
over zero great = absurd (omega arith)

-- digits with no `-` in front
pub plain_none : (text : List ℕ) → has_minus text ≡ false → (IsNumeral 10 text → 2 ^ 63 < digits_value 10 text) → None ≡ int_of text
plain_none text plain great = rw plain (refused (are_digits text) (is_in_range (pos (digits_value 10 text))) (pos (digits_value 10 text))
    (λ digits range. deny_range (pos (digits_value 10 text)) (over (digits_value 10 text) (great (numeral_from text digits))).0 range))

pub plain_found : (text : List ℕ) (number : ℕ) (found : Option ℤ) → has_minus text ≡ false → IsNumeral 10 text → number ≡ digits_value 10 text
    → SomeIff found (FitsSigned w64 (pos 0 +ℤ pos number)) (pos 0 +ℤ pos number) → found ≡ int_of text
plain_found text number None plain is value h = rw plain (refused (are_digits text) (is_in_range (pos (digits_value 10 text))) (pos (digits_value 10 text))
    (λ _ range. h (subst (FitsSigned w64) (ap pos (sym value) ∙ sym (+ℤ_idl (pos number))) (fits_from (pos (digits_value 10 text)) range))))
plain_found text number (Some x) plain is value h =
    let same : pos 0 +ℤ pos number ≡ pos (digits_value 10 text) = +ℤ_idl (pos number) ∙ ap pos value in
    rw plain (given (are_digits text) (is_in_range (pos (digits_value 10 text))) x (pos (digits_value 10 text))
    (numeral_to text is) (fits_to (pos (digits_value 10 text)) (subst (FitsSigned w64) same h.0)) (h.1 ∙ same))

-- digits behind a `-`
pub minus_none : (text : List ℕ) → has_minus text ≡ true → (IsNumeral 10 (drop 1 text) → 2 ^ 63 < digits_value 10 (drop 1 text)) → None ≡ int_of text
minus_none text minus great = let z = neg_ℤ (pos (digits_value 10 (drop 1 text))) in rw minus (refused (are_digits (drop 1 text)) (is_in_range z) z
    (λ digits range. deny_range z (over (digits_value 10 (drop 1 text)) (great (numeral_from (drop 1 text) digits))).1 range))

pub minus_found : (text : List ℕ) (number : ℕ) (found : Option ℤ) → has_minus text ≡ true → IsNumeral 10 (drop 1 text) → number ≡ digits_value 10 (drop 1 text)
    → SomeIff found (FitsSigned w64 (pos 0 -ℤ pos number)) (pos 0 -ℤ pos number) → found ≡ int_of text
minus_found text number None minus is value h = let z = neg_ℤ (pos (digits_value 10 (drop 1 text))) in rw minus (refused (are_digits (drop 1 text)) (is_in_range z) z
    (λ _ range. h (subst (FitsSigned w64) (ap (λ n. neg_ℤ (pos n)) (sym value) ∙ sym (+ℤ_idl (neg_ℤ (pos number)))) (fits_from z range))))
minus_found text number (Some x) minus is value h =
    let z = neg_ℤ (pos (digits_value 10 (drop 1 text))) in
    let same : pos 0 -ℤ pos number ≡ z = +ℤ_idl (neg_ℤ (pos number)) ∙ ap (λ n. neg_ℤ (pos n)) value in
    rw minus (given (are_digits (drop 1 text)) (is_in_range z) x z
    (numeral_to (drop 1 text) is) (fits_to z (subst (FitsSigned w64) same h.0)) (h.1 ∙ same))

not_minus : (minus : Bool) (digit : ℕ) → (digit == 45) ≡ minus → digit_value digit < 10 → minus ≡ false
not_minus true digit is small = absurd (omega (arith, (digit_from_value digit small).0, (Decides-eqb digit 45).0 is))
not_minus false digit is small = refl

-- a numeral has no `-`
no_minus : (digits : List ℕ) → IsNumeral 10 digits → has_minus digits ≡ false
no_minus [] n = refl
no_minus (digit ∷ digits) n = not_minus (digit == 45) digit refl n.1.0

-- digits, after a `-` or without one, are read as their number
read_plain : (digits : List ℕ) (number : ℕ) → IsNumeral 10 digits → digits_value 10 digits ≡ number → is_in_range (pos number) ≡ true → int_of digits ≡ Some (pos number)
read_plain digits number n e r = rw (no_minus digits n, e, numeral_to digits n, r) refl

read_minus : (digits : List ℕ) (z : ℤ) (number : ℕ) → IsNumeral 10 digits → digits_value 10 digits ≡ number → neg_ℤ (pos number) ≡ z → is_in_range z ≡ true → int_of (45 ∷ digits) ≡ Some z
read_minus digits z number n e k r = rw (e, k, numeral_to digits n, r) refl

-- what is written of an integer is read as it
pub written : (n : ℤ) → is_in_range n ≡ true → int_of (signed_decimal n) ≡ Some n
written (pos n) e =
    let small : n < 2 ^ 64 = omega (arith, (Decides-ltb n (2 ^ 63)).0 e) in
    let is = decimal_is_IsNumeral n small in
    read_plain (decimal n) n is.0 is.1 e
written (negsuc n) e =
    let small : suc n < 2 ^ 64 = omega (arith, (Decides-ltb n (2 ^ 63)).0 e) in
    let is = decimal_is_IsNumeral (suc n) small in
    read_minus (decimal (suc n)) (negsuc n) (suc n) is.0 is.1 refl e
