-- Two lists item by item, sorted lists, and lists with another item at a place.
use Rattle.std.proofs.Common.{◌≡◌, ◌⊎◌, inl, inr, ℕ, zero, suc, ◌<◌, List, [], ◌∷◌, length, set, sym, subst, arith, Contains}
use Rattle.std.specs.List.{AllZip}
use Rattle.std.specs.List.Sorted.{IsStrictlySortedBy}
use Rattle.std.specs.Ordering.{nat_cmp}
use Rattle.cqa_model.proofs.Classic.{mem-head, mem-tail, mem-nil, mem-cases}

module _ {A B : Type 0} (R : A → B → Type 0) where
  pub zip-map : (S : A → B → Type 0) → ((x : A) (y : B) → R x y → S x y) → (xs : List A) (ys : List B) → AllZip R xs ys → AllZip S xs ys
  zip-map S f [] [] h = tt
  zip-map S f [] (y ∷ ys) h = absurd h
  zip-map S f (x ∷ xs) [] h = absurd h
  zip-map S f (x ∷ xs) (y ∷ ys) h = (f x y h.0, zip-map S f xs ys h.1)

-- ---- another item at a place

pub set-cases : {A : Type 0} (xs : List A) (i : ℕ) (x y : A) → Contains (set xs i x) y → (Contains xs y) ⊎ (y ≡ x)
set-cases [] i x y m = absurd (mem-nil y m)
set-cases (z ∷ xs) zero x y m = elim (mem-cases y x xs m) [
  | inl e ↦ inr (sym e)
  | inr n ↦ inl (mem-tail y z xs n)
]
set-cases (z ∷ xs) (suc i) x y m = elim (mem-cases y z (set xs i x) m) [
  | inl e ↦ inl (subst (Contains (z ∷ xs)) e (mem-head z xs))
  | inr n ↦ elim (set-cases xs i x y n) [
    | inl k ↦ inl (mem-tail y z xs k)
    | inr e ↦ inr e
  ]
]

pub set-there : {A : Type 0} (xs : List A) (i : ℕ) (x : A) → i < length xs → Contains (set xs i x) x
set-there [] i x l = absurd (omega (arith, l))
set-there (z ∷ xs) zero x l = mem-head x xs
set-there (z ∷ xs) (suc i) x l = mem-tail x z (set xs i x) (set-there xs i x (omega (arith, l)))

-- ---- sorted lists

pub single-sorted : (m : ℕ) → IsStrictlySortedBy nat_cmp (m ∷ [])
unfolding IsStrictlySortedBy
single-sorted m = (tt, tt)

pub none-sorted : IsStrictlySortedBy nat_cmp []
unfolding IsStrictlySortedBy
none-sorted = tt
