-- Integers as they are written.
use Rattle.std.proofs.Common.{◌≡◌, ◌⊎◌, inl, inr, ◌<◌, ◌≤◌, ◌^◌, ◌&&◌, ℕ, suc, Bool, true, false, ℤ, pos, negsuc, List, [], ◌∷◌, length, Some, None, refl, ap, arith, if◌then◌else◌}
use Rattle.std.proofs.lemmas.Bool.Decides.{nat_tests, Decides-ltb}
use Rattle.std.proofs.lemmas.Fmt.{decimal_is_IsNumeral, length_signed_le}
use Rattle.std.proofs.lemmas.Str.Parse.{digit_from_value}
use Rattle.std.specs.Str.Parse.{AllDigits}
use Rattle.std.specs.Char.{digit_value}
use Rattle.std.specs.Fmt.{decimal, signed_decimal}
use Rattle.cqa_value.specs.Literals.{are_digits, without_minus, integer_of, is_in_range}
use Rattle.cqa_value.proofs.Integers.{written}
use Rattle.script_lex.specs.Bytes.{is_digit, AllPass}

-- a digit and more, with a dash before them or none
pub record IsWritten (bytes : List ℕ) : Type 0 where
  pub digit : ℕ
  pub digits : List ℕ
  pub each : AllPass is_digit (digit ∷ digits)
  pub is : (bytes ≡ digit ∷ digits) ⊎ (bytes ≡ 45 ∷ digit ∷ digits)

digit_is : (c : ℕ) → digit_value c < 10 → is_digit c ≡ true
digit_is c h = let r = digit_from_value c h in grind (arith, nat_tests)

digits_are : (ds : List ℕ) → AllDigits 10 ds → AllPass is_digit ds
digits_are [] a = tt
digits_are (c ∷ cs) a = (digit_is c a.0, digits_are cs a.1)

some_digit : (ds : List ℕ) → 0 < length ds → AllPass is_digit ds → (d : ℕ) × (more : List ℕ) × (ds ≡ d ∷ more) × AllPass is_digit (d ∷ more)
some_digit [] lt a = absurd (omega arith)
some_digit (d ∷ more) lt a = (d, more, refl, a)

pub is_written : (n : ℤ) → is_in_range n ≡ true → IsWritten (signed_decimal n)
is_written (pos n) e =
    let small : n < 2 ^ 64 = omega (arith, (Decides-ltb n (2 ^ 63)).0 e) in
    let is = decimal_is_IsNumeral n small in
    let d = some_digit (decimal n) is.0.0 (digits_are (decimal n) is.0.1) in
    record { digit = d.0; digits = d.1; each = d.3; is = inl d.2 }
is_written (negsuc n) e =
    let small : suc n < 2 ^ 64 = omega (arith, (Decides-ltb n (2 ^ 63)).0 e) in
    let is = decimal_is_IsNumeral (suc n) small in
    let d = some_digit (decimal (suc n)) is.0.0 (digits_are (decimal (suc n)) is.0.1) in
    record { digit = d.0; digits = d.1; each = d.3; is = inr (ap (λ l. 45 ∷ l) d.2) }

is_integer : (digits range : Bool) (x z : ℤ) → (if digits && range then Some x else None) ≡ Some z → x ≡ z
is_integer true true x z e = cc e
is_integer true false x z e = absurd (cc e)
is_integer false range x z e = absurd (cc e)

pub integer_again : (n : ℤ) → is_in_range n ≡ true → integer_of (signed_decimal n) ≡ n
integer_again n e = is_integer (are_digits (without_minus (signed_decimal n))) (is_in_range (integer_of (signed_decimal n))) (integer_of (signed_decimal n)) n (written n e)

pub few_digits : (n : ℤ) → is_in_range n ≡ true → length (signed_decimal n) ≤ 40
few_digits (pos n) e = let lt = (Decides-ltb n (2 ^ 63)).0 e in omega (arith, length_signed_le 39 (pos n) (omega (arith, lt)) (omega (arith, lt)))
few_digits (negsuc n) e = let lt = (Decides-ltb n (2 ^ 63)).0 e in omega (arith, length_signed_le 39 (negsuc n) (omega (arith, lt)) (omega (arith, lt)))
