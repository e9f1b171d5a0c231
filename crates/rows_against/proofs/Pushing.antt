-- What holds of each item of a list, and of one more.
use Rattle.std.proofs.Common.{◌≡◌, ◌<◌, ◌+◌, ◌⊎◌, inl, inr, ◌∙◌, ℕ, List, [], ◌∷◌, ◌++◌, length, get_or, sym, subst, arith}
use Rattle.std.proofs.lemmas.List.{get_or_append_left, get_or_push}
use Rattle.cqa_value.proofs.Words.{cases_next}

pub pushed : {A : Type 0} (d : A) (P : ℕ → A → Type 0) (xs : List A) (x : A) (n : ℕ) → length xs ≡ n → ((i : ℕ) → i < n → P i (get_or xs i d)) → P n x → (i : ℕ) → i < n + 1 → P i (get_or (xs ++ x ∷ []) i d)
pushed d P xs x n size each one i l = go (cases_next i n l)
  where
    go : (i < n) ⊎ (i ≡ n) → P i (get_or (xs ++ x ∷ []) i d)
    go (inl lt) = subst (P i) (sym (get_or_append_left xs (x ∷ []) d i (omega (arith, lt, size)))) (each i lt)
    go (inr e) = subst (P i) (sym (get_or_push xs x d i (size ∙ sym e))) (subst (λ j. P j x) (sym e) one)
