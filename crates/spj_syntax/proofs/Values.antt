-- The values of texts and integers.
use Rattle.std.proofs.Common.{◌≡◌, ◌<◌, ◌≤◌, ◌^◌, List, [], ◌∷◌, ℕ, zero, suc, pos, neg_ℤ, Bool, true, false, ◌&&◌, nat_eq, length, drop, refl, ap, arith, length-drop, if◌then◌else◌}
use Rattle.std.proofs.lemmas.Bool.Decides.{Decides-ltb, nat_tests}
use Rattle.std.proofs.lemmas.Str.Parse.{numerals_by_value, tells_all_ascii_digits, digits_value_short}
use Rattle.std.specs.List.{list_any}
use Rattle.std.specs.Str.{all_ascii_digits}
use Rattle.std.specs.Str.Parse.{digits_value}
use Rattle.std.proofs.lemmas.Bool.{or_parts}
use Rattle.cqa_value.specs.Literals.{are_digits, has_minus, without_minus, integer_of, is_in_range}
use Rattle.spj_syntax.specs.Lexemes.{undoubled}

-- A text with a byte has a value with a byte.
pub undoubled_some : (bytes : List ℕ) → 0 < length bytes → 0 < length (undoubled bytes)
undoubled_some [] h = absurd (omega arith)
undoubled_some (b ∷ []) h = omega arith
undoubled_some (b ∷ c ∷ bytes) h = go (nat_eq 39 b && nat_eq 39 c)
  where
    go : (t : Bool) → 0 < length (if t then 39 ∷ undoubled bytes else b ∷ undoubled (c ∷ bytes))
    go true = omega arith
    go false = omega arith

-- A text has as many bytes as its value, or more.
pub undoubled_no_longer : (bytes : List ℕ) → length (undoubled bytes) ≤ length bytes
undoubled_no_longer [] = omega arith
undoubled_no_longer (b ∷ []) = omega arith
undoubled_no_longer (b ∷ c ∷ bytes) = go (nat_eq 39 b && nat_eq 39 c) (undoubled_no_longer bytes) (undoubled_no_longer (c ∷ bytes))
  where
    go : (t : Bool) → length (undoubled bytes) ≤ length bytes → length (undoubled (c ∷ bytes)) ≤ length (c ∷ bytes) → length (if t then 39 ∷ undoubled bytes else b ∷ undoubled (c ∷ bytes)) ≤ length (b ∷ c ∷ bytes)
    go true h k = omega (arith, h)
    go false h k = omega (arith, k)

no_quote : (b : ℕ) → nat_eq b 39 ≡ false → nat_eq 39 b ≡ false
no_quote b h = grind (arith, nat_tests)

-- A text without quotes is its value.
pub undoubled_same : (bytes : List ℕ) → list_any (λ b. nat_eq b 39) bytes ≡ false → undoubled bytes ≡ bytes
undoubled_same [] h = refl
undoubled_same (b ∷ []) h = refl
undoubled_same (b ∷ c ∷ bytes) h =
    let parts = or_parts (nat_eq b 39) (list_any (λ z. nat_eq z 39) (c ∷ bytes)) h in
    rw (no_quote b parts.0) (ap (λ z. b ∷ z) (undoubled_same (c ∷ bytes) parts.1))

few_digits : (digits : List ℕ) → are_digits digits ≡ true → length digits ≤ 18 → digits_value 10 digits < 2 ^ 63
few_digits [] e few = absurd (cc)
few_digits (digit ∷ digits) e few =
    let small : digits_value 10 (digit ∷ digits) < 10 ^ 18 = digits_value_short (numerals_by_value (λ z. all_ascii_digits z ≡ true) tells_all_ascii_digits) (digit ∷ digits) 18 e few in
    omega (arith, small)

no_longer : (minus : Bool) (bytes : List ℕ) → length (if minus then drop 1 bytes else bytes) ≤ length bytes
no_longer true bytes = omega (arith, length-drop 1 bytes)
no_longer false bytes = omega arith

small_in_range : (minus : Bool) (n : ℕ) → n < 2 ^ 63 → is_in_range (if minus then neg_ℤ (pos n) else pos n) ≡ true
small_in_range false n small = (Decides-ltb n (2 ^ 63)).1 small
small_in_range true zero small = refl
small_in_range true (suc n) small = (Decides-ltb n (2 ^ 63)).1 (omega (arith, small))

-- A short integer is in range.
pub short_in_range : (bytes : List ℕ) → are_digits (without_minus bytes) ≡ true → length bytes ≤ 18 → is_in_range (integer_of bytes) ≡ true
short_in_range bytes digits short = small_in_range (has_minus bytes) (digits_value 10 (without_minus bytes)) (few_digits (without_minus bytes) digits (omega (arith, no_longer (has_minus bytes) bytes)))
