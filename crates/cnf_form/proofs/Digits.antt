-- Digits one by one.
use Rattle.std.proofs.Common.{◌≡◌, ℕ, ◌<◌, ◌+◌, ◌*◌, ◌-◌, Bool, true, false, cond, List, [], ◌∷◌, refl, sym, ◌∙◌, ap, arith, None}
use Rattle.std.specs.Prelude.{option_and_then}
use Rattle.std.proofs.lemmas.Grind.{common_steps}
use Rattle.cnf_form.specs.Numbers.{at_most, bounded, digits_after, is_digit}

past : (limit n : ℕ) → limit < n → at_most limit n ≡ None
past limit n h = grind (arith, common_steps)

-- what is past the limit stays past it
stays_past : (limit n : ℕ) (bs : List ℕ) → limit < n → option_and_then (at_most limit) (digits_after n bs) ≡ None
stays_past limit n [] h = past limit n h
stays_past limit n (b ∷ bs) h = elim (is_digit b) as (λ (c : Bool). option_and_then (at_most limit) (cond c (digits_after (10 * n + (b - 48)) bs) None) ≡ None) [
  | true ↦ stays_past limit (10 * n + (b - 48)) bs (omega arith)
  | false ↦ refl
]

pub too_large : (limit n b : ℕ) (bs all : List ℕ) → digits_after n (b ∷ bs) ≡ digits_after 0 all → limit < 10 * n → bounded limit all ≡ None
too_large limit n b bs all e h = ap (option_and_then (at_most limit)) (sym e)
    ∙ elim (is_digit b) as (λ (c : Bool). option_and_then (at_most limit) (cond c (digits_after (10 * n + (b - 48)) bs) None) ≡ None) [
      | true ↦ stays_past limit (10 * n + (b - 48)) bs (omega arith)
      | false ↦ refl
    ]

pub no_digit : (limit n b : ℕ) (bs all : List ℕ) → digits_after n (b ∷ bs) ≡ digits_after 0 all → is_digit b ≡ false → bounded limit all ≡ None
no_digit limit n b bs all e h = ap (option_and_then (at_most limit)) (sym e) ∙ ap (λ (c : Bool). option_and_then (at_most limit) (cond c (digits_after (10 * n + (b - 48)) bs) None)) h
