-- The first bytes of a line.
use Rattle.std.proofs.Common.{◌≡◌, ℕ, zero, suc, ◌<◌, ◌==◌, Bool, true, false, cond, List, [], ◌∷◌, take, length, refl, ◌∙◌, ap, arith}
use Rattle.std.proofs.lemmas.List.{length-take}
use Rattle.cnf_form.specs.Lines.{line_of}

-- no byte of a line is an LF
pub split_line : (b : ℕ) (bs : List ℕ) → line_of (b ∷ bs) ≡ b ∷ bs → ((b == 10) ≡ false) × (line_of bs ≡ bs)
split_line b bs e = go (b == 10) refl e
  where
    go : (c : Bool) → (b == 10) ≡ c → cond c [] (b ∷ line_of bs) ≡ b ∷ bs → ((b == 10) ≡ false) × (line_of bs ≡ bs)
    go true i e = cc
    go false i e = (i, cc)

pub line_of_take : (n : ℕ) (l : List ℕ) → line_of l ≡ l → line_of (take n l) ≡ take n l
line_of_take zero l e = refl
line_of_take (suc n) [] e = refl
line_of_take (suc n) (b ∷ bs) e = ap (λ (c : Bool). cond c [] (b ∷ line_of (take n bs))) (split_line b bs e).0 ∙ ap (λ (xs : List ℕ). b ∷ xs) (line_of_take n bs (split_line b bs e).1)

pub take_full : (n : ℕ) (l : List ℕ) → n < length l → n ≡ length (take n l)
take_full n l h = omega (arith, length-take n l, h)
