-- The places of sorted rows among others: one row more, and rows behind some that are below.
use Rattle.std.proofs.Common.{◌≡◌, ◌≤◌, ◌<◌, ◌+◌, ◌-◌, ℕ, Bool, true, false, cond, List, [], ◌∷◌, ◌++◌, length, take, drop, replicate, get_or, set, sym, ap, ◌∙◌, subst, arith}
use Rattle.std.specs.List.{filter, AllByRecursion}
use Rattle.std.specs.List.Sorted.{IsStrictlySortedBy, IsPartitionedBy, IsPartitionPoint}
use Rattle.std.specs.Cmp.{IsTotalOrder}
use Rattle.std.specs.Ordering.{is_lt}
use Rattle.std.specs.declared.cmp.Ordering.{Ordering}
use Rattle.std.specs.declared.cmp.Ordering.TheVariants.{Less, Equal}
use Rattle.std.proofs.lemmas.List.Elements.{filter-append}
use Rattle.std.proofs.lemmas.List.{get_or-take, length-take-le, length-drop, take_all, get_or_default, take_more, append-nil, take_more_set}
use Rattle.std.proofs.lemmas.Option.{slice_get_within}
use Rattle.std.proofs.Math.Seq.{take-nil}
use Rattle.table_blocks.specs.Tables.{IsPlace, ArePlaces}
use Rattle.table_blocks.proofs.Halving.{part_point}
use Rattle.table_blocks.proofs.Sorting.{each_at, earlier_below, parted, place_from_point}

module _ {A : Type 0} (cmp : A → A → Ordering) (stored : List A) where
  pub places-push : (rows : List A) (places : List ℕ) (row : A) (place : ℕ) → ArePlaces cmp stored rows places → IsPlace cmp stored row place → ArePlaces cmp stored (rows ++ row ∷ []) (places ++ place ∷ [])
  places-push [] [] row place h is = (is, tt)
  places-push [] (p ∷ places) row place h is = absurd h
  places-push (x ∷ rows) [] row place h is = absurd h
  places-push (x ∷ rows) (p ∷ places) row place h is = (h.0, places-push rows places row place h.1 is)

-- a list without items that is filled up
pub filled : {A : Type 0} (n : ℕ) (x : A) → take n [] ++ replicate (n - 0) x ≡ replicate n x
filled n x = let all : n ≡ n - 0 = omega arith in subst (λ m. take n [] ++ replicate m x ≡ replicate n x) all (ap (λ front. front ++ replicate n x) (take-nil n))

-- where no row is stored, each one's place is the first
pub first_places : {A : Type 0} (cmp : A → A → Ordering) (rows : List A) → ArePlaces cmp [] rows (replicate (length rows) 0)
first_places cmp [] = tt
first_places cmp (row ∷ rows) =
    (record { within = omega arith; below = tt; stops = λ other found less. (let there = slice_get_within [] 0 other found in absurd (omega (arith, there))) }, first_places cmp rows)

-- one row more is tried, and has its place where it passes
module _ {A : Type 0} (cmp : A → A → Ordering) (stored : List A) (p : A → Bool) (xs : List A) (at : ℕ) (d : A) (inside : at < length xs) where
  tried : filter p (take (at + 1) xs) ≡ filter p (take at xs) ++ cond (p (get_or xs at d)) (get_or xs at d ∷ []) []
  tried = ap (filter p) (take_more xs at d inside) ∙ filter-append p (take at xs) (get_or xs at d ∷ [])

  pub places_more : (places : List ℕ) (fresh place : ℕ) → p (get_or xs at d) ≡ true → fresh < length places → IsPlace cmp stored (get_or xs at d) place → ArePlaces cmp stored (filter p (take at xs)) (take fresh places)
      → ArePlaces cmp stored (filter p (take (at + 1) xs)) (take (fresh + 1) (set places fresh place))
  places_more places fresh place passes room is so_far =
      subst (λ rows. ArePlaces cmp stored rows (take (fresh + 1) (set places fresh place))) (sym (tried ∙ ap (λ b. filter p (take at xs) ++ cond b (get_or xs at d ∷ []) []) passes))
      (subst (ArePlaces cmp stored (filter p (take at xs) ++ get_or xs at d ∷ [])) (sym (take_more_set places fresh place room))
      (places-push cmp stored (filter p (take at xs)) (take fresh places) (get_or xs at d) place so_far is))

  pub places_same : (places : List ℕ) → p (get_or xs at d) ≡ false → ArePlaces cmp stored (filter p (take at xs)) places → ArePlaces cmp stored (filter p (take (at + 1) xs)) places
  places_same places fails so_far =
      subst (λ rows. ArePlaces cmp stored rows places) (sym (tried ∙ ap (λ b. filter p (take at xs) ++ cond b (get_or xs at d ∷ []) []) fails ∙ append-nil (filter p (take at xs)))) so_far

module _ {A : Type 0} (cmp : A → A → Ordering) (total : IsTotalOrder cmp) (exact : (a b : A) → cmp a b ≡ Equal → a ≡ b) (alike : (a : A) → cmp a a ≡ Equal) where
  -- where the test of being below parts what stands behind rows that are all below, there the place is
  pub place_from_part : (xs : List A) (k : A) (from at : ℕ) → from ≤ length xs → at ≤ length (drop from xs) → IsStrictlySortedBy cmp xs → AllByRecursion (λ y. cmp y k ≡ Less) (take from xs)
      → (IsPartitionedBy (λ y. is_lt (cmp y k)) (drop from xs) → IsPartitionPoint (λ y. is_lt (cmp y k) ≡ true) (λ y. is_lt (cmp y k) ≡ false) (drop from xs) at) → IsPlace cmp xs k (from + at)
  place_from_part xs k from at there within s below found =
      let long = length-drop from xs in
      let short = length-take-le from xs there in
      let p : A → Bool = λ y. is_lt (cmp y k) in
      let part : take (length xs - from) (drop from xs) ≡ drop from xs = take_all (length xs - from) (drop from xs) (omega (arith, long)) in
      place_from_point cmp total exact alike xs k (from + at) (omega (arith, there, within, long))
      (part_point p xs from (length xs) there (omega arith) at (subst (λ l. at ≤ length l) (sym part) within) (parted cmp total exact alike xs k s)
      (λ i d a b. ap is_lt (subst (λ y. cmp y k ≡ Less) (get_or-take from xs i d b) (each_at cmp total exact alike (λ y. cmp y k ≡ Less) (take from xs) i d below (omega (arith, b, short)))))
      (λ i d a b. absurd (omega (arith, a, b)))
      (subst (λ l. IsPartitionedBy p l → IsPartitionPoint (λ y. p y ≡ true) (λ y. p y ≡ false) l at) (sym part) found))

  all_below : (xs : List A) (y z : A) → cmp y z ≡ Less → AllByRecursion (λ x. cmp x y ≡ Less) xs → AllByRecursion (λ x. cmp x z ≡ Less) xs
  all_below [] y z less h = tt
  all_below (x ∷ xs) y z less h = (total.trans x y z h.0 less, all_below xs y z less h.1)

  -- what stands before the place of one row is below each later row too
  pub below_later : (xs others : List A) (i place : ℕ) (x : A) → IsStrictlySortedBy cmp xs → x ≡ get_or xs i x → IsPlace cmp others x place → (k : ℕ) (d : A) → i + 1 ≤ k → k < length xs
      → AllByRecursion (λ y. cmp y (get_or xs k d) ≡ Less) (take place others)
  below_later xs others i place x s is p k d a b =
      all_below (take place others) x (get_or xs k d)
      (subst (λ y. cmp y (get_or xs k d) ≡ Less) (get_or_default xs i d x (omega (arith, a, b)) ∙ sym is) (earlier_below cmp total exact alike xs s i k d (omega (arith, a)) b)) p.below
