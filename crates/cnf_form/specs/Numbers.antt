-- Numbers as they are written.
use Rattle.std.specs.Prelude.{ℕ, zero, suc, Bool, true, false, cond, ◌==◌, List, [], ◌∷◌, ◌+◌, ◌*◌, ◌-◌, Option, Some, None, option_map, option_and_then, nat_lt}

abbrev pub is_digit : ℕ → Bool
is_digit b = cond (nat_lt b 48) false (nat_lt b 58)

-- the number whose decimal digits are those of n and then these
abbrev pub digits_after : ℕ → List ℕ → Option ℕ
digits_after n [] = Some n
digits_after n (b ∷ bs) = cond (is_digit b) (digits_after (10 * n + (b - 48)) bs) None

abbrev pub at_most : ℕ → ℕ → Option ℕ
at_most limit n = cond (nat_lt limit n) None (Some n)

-- the number that digits write, up to the limit
abbrev pub bounded : ℕ → List ℕ → Option ℕ
bounded limit bs = option_and_then (at_most limit) (digits_after 0 bs)

-- one digit or more
abbrev pub number_of : ℕ → List ℕ → Option ℕ
number_of limit [] = None
number_of limit (b ∷ bs) = bounded limit (b ∷ bs)

-- a number after an optional `-` (45), and whether that is there
abbrev pub signed_of : ℕ → List ℕ → Option (Bool × ℕ)
signed_of limit [] = None
signed_of limit (b ∷ bs) =
    cond (b == 45) (option_map (λ n. (true, n)) (number_of limit bs)) (option_map (λ n. (false, n)) (number_of limit (b ∷ bs)))

-- zero may have a `-` here too
abbrev pub without_sign : Bool → ℕ → Option ℕ
without_sign false n = Some n
without_sign true zero = Some zero
without_sign true (suc n) = None

-- a number that is not negative
abbrev pub unsigned_of : ℕ → List ℕ → Option ℕ
unsigned_of limit t = option_and_then (λ z. without_sign z.0 z.1) (signed_of limit t)
