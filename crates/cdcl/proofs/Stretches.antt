-- Stretches of a list whose front is written over.
use Rattle.std.proofs.Common.{drop, set, ◌≡◌, ℕ, zero, suc, ◌<◌, ◌+◌, List, [], ◌∷◌, refl, sym, ◌∙◌, ap, arith, length, get_or}
use Rattle.std.proofs.lemmas.List.{drop_more}

suc_one : (i : ℕ) → suc i + 1 ≡ suc (i + 1)
suc_one i = omega arith

pub drop_set : (xs : List ℕ) (k x n : ℕ) → k < n → drop n (set xs k x) ≡ drop n xs
drop_set [] k x n h = refl
drop_set (y ∷ ys) k x zero h = absurd (omega arith)
drop_set (y ∷ ys) zero x (suc n) h = refl
drop_set (y ∷ ys) (suc k) x (suc n) h = drop_set ys k x n (omega arith)

pub next_index : (xs : List ℕ) (i x : ℕ) → i < length xs → x ≡ get_or xs i x → drop i xs ≡ x ∷ drop (i + 1) xs
next_index xs i x h e = drop_more xs i x h ∙ ap (λ (y : ℕ). y ∷ drop (i + 1) xs) (sym e)
