-- The first items of a list, one more: what some of them have, and what stands beside each.
use Rattle.std.proofs.Common.{◌≡◌, ◌⊎◌, ◌↔◌, inl, inr, ℕ, zero, suc, ◌+◌, ◌<◌, ◌≤◌, List, [], ◌∷◌, ◌++◌, length, get_or, set, take, sym, subst, arith, Contains, le_of_suc-le-suc}
use Rattle.std.specs.List.{AllZip}
use Rattle.std.proofs.lemmas.List.{take_more, take_all}
use Rattle.std.proofs.lemmas.List.Elements.{Contains-append_left, Contains-append_right, Contains-push_cases}
use Rattle.cqa_value.proofs.Words.{all_zip_push, mem-head, mem-nil}

module _ {A : Type 0} (P : A → Type 0) where
  pub some-none : (xs : List A) → ((x : A) × Contains (take 0 xs) x × P x) → ⊥
  some-none xs s = mem-nil s.0 s.1

  module _ (xs : List A) (at : ℕ) (d : A) (l : at < length xs) where
    grown : take (at + 1) xs ≡ take at xs ++ get_or xs at d ∷ []
    grown = take_more xs at d l

    pub some-more : ((x : A) × Contains (take (at + 1) xs) x × P x) ↔ (((x : A) × Contains (take at xs) x × P x) ⊎ P (get_or xs at d))
    some-more = (
      λ s. elim (Contains-push_cases (take at xs) (get_or xs at d) s.0 (subst (λ ys. Contains ys s.0) grown s.1)) [ inl m ↦ inl (s.0, m, s.2) | inr e ↦ inr (subst P (sym e) s.2) ],
      λ h. elim h [
        | inl s ↦ (s.0, subst (λ ys. Contains ys s.0) (sym grown) (Contains-append_left (take at xs) (get_or xs at d ∷ []) s.0 s.1), s.2)
        | inr p ↦ (get_or xs at d, subst (λ ys. Contains ys (get_or xs at d)) (sym grown) (Contains-append_right (take at xs) (get_or xs at d ∷ []) (get_or xs at d) (mem-head (get_or xs at d) [])), p)
      ],
    )

  pub some-all : (xs : List A) (at : ℕ) → length xs ≤ at → ((x : A) × Contains (take at xs) x × P x) → (x : A) × Contains xs x × P x
  some-all xs at l s = (s.0, subst (λ ys. Contains ys s.0) (take_all at xs l) s.1, s.2)

  pub all-some : (xs : List A) (at : ℕ) → length xs ≤ at → ((x : A) × Contains xs x × P x) → (x : A) × Contains (take at xs) x × P x
  all-some xs at l s = (s.0, subst (λ ys. Contains ys s.0) (sym (take_all at xs l)) s.1, s.2)

module _ {A B : Type 0} (R : A → B → Type 0) where
  -- one item more stands beside one
  pub zip-more : (xs : List A) (ys : List B) (at : ℕ) (d : A) (y : B) → at < length xs → AllZip R (take at xs) ys → R (get_or xs at d) y → AllZip R (take (at + 1) xs) (ys ++ y ∷ [])
  zip-more xs ys at d y l h r = subst (λ zs. AllZip R zs (ys ++ y ∷ [])) (sym (take_more xs at d l)) (all_zip_push R (take at xs) ys (get_or xs at d) y h r)

  pub zip-all : (xs : List A) (ys : List B) (at : ℕ) → length xs ≤ at → AllZip R (take at xs) ys → AllZip R xs ys
  zip-all xs ys at l h = subst (λ zs. AllZip R zs ys) (take_all at xs l) h

  -- what stands beside an item
  pub zip-at : (xs : List A) (ys : List B) (at : ℕ) (d : A) (e : B) → AllZip R xs ys → at < length xs → R (get_or xs at d) (get_or ys at e)
  zip-at [] ys at d e h l = absurd (omega (arith, l))
  zip-at (x ∷ xs) [] at d e h l = absurd h
  zip-at (x ∷ xs) (y ∷ ys) zero d e h l = h.0
  zip-at (x ∷ xs) (y ∷ ys) (suc at) d e h l = zip-at xs ys at d e h.1 (le_of_suc-le-suc l)

  -- another one beside an item
  pub zip-set : (xs : List A) (ys : List B) (at : ℕ) (d : A) (y : B) → AllZip R xs ys → at < length xs → R (get_or xs at d) y → AllZip R xs (set ys at y)
  zip-set [] ys at d y h l r = absurd (omega (arith, l))
  zip-set (x ∷ xs) [] at d y h l r = absurd h
  zip-set (x ∷ xs) (z ∷ ys) zero d y h l r = (r, h.1)
  zip-set (x ∷ xs) (z ∷ ys) (suc at) d y h l r = (h.0, zip-set xs ys at d y h.1 (le_of_suc-le-suc l) r)
