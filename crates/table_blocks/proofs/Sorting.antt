-- Strictly sorted lists: where something stands in them, and how two are merged.
use Rattle.std.proofs.Common.{◌≡◌, zero, suc, ◌≤◌, ◌<◌, ℕ, Bool, true, false, nat_lt, List, [], ◌∷◌, length, take, slice_get, get_or, Contains, Some, refl, sym, ap, ◌∙◌, subst, arith, rules}
use Rattle.std.specs.List.{AllByRecursion}
use Rattle.std.specs.List.Sorted.{IsStrictlySortedBy, IsPartitionedBy, IsPartitionPoint}
use Rattle.std.specs.Cmp.{IsTotalOrder}
use Rattle.std.specs.Ordering.{is_lt}
use Rattle.std.specs.declared.cmp.Ordering.{Ordering}
use Rattle.std.specs.declared.cmp.Ordering.TheVariants.{Less, Equal, Greater}
use Rattle.std.proofs.lemmas.List.Elements.{All-from_get_or, recursion_from_All}
use Rattle.std.proofs.lemmas.List.{get_or-take, length-take-le}
use Rattle.std.proofs.lemmas.Option.{slice_get_within, get_or_from_slice_get, slice_get-get_or}
use Rattle.row_order.proofs.BlockOrder.{is_less}
use Rattle.table_blocks.specs.Tables.{IsPlace}

not_less : (o : Ordering) → is_lt o ≡ false → o ≡ Less → ⊥
not_less Less e h = (cc)
not_less Equal e h = (cc)
not_less Greater e h = (cc)

pub greater : (o : Ordering) → (o ≡ Less → ⊥) → (o ≡ Equal → ⊥) → o ≡ Greater
greater Less l e = absurd (l refl)
greater Equal l e = absurd (e refl)
greater Greater l e = refl

module _ {A : Type 0} (cmp : A → A → Ordering) (total : IsTotalOrder cmp) (exact : (a b : A) → cmp a b ≡ Equal → a ≡ b) (alike : (a : A) → cmp a a ≡ Equal) where
  pub each_at : (P : A → Type 0) (xs : List A) (i : ℕ) (d : A) → AllByRecursion P xs → i < length xs → P (get_or xs i d)
  each_at P [] i d h b = absurd (omega (arith, b))
  each_at P (x ∷ xs) zero d h b = h.0
  each_at P (x ∷ xs) (suc i) d h b = each_at P xs i d h.1 (omega (arith, b))

  -- an earlier element is below a later one
  pub earlier_below : (xs : List A) → IsStrictlySortedBy cmp xs → (i j : ℕ) (d : A) → i < j → j < length xs → cmp (get_or xs i d) (get_or xs j d) ≡ Less
  unfolding IsStrictlySortedBy
  earlier_below [] s i j d a b = absurd (omega (arith, b))
  earlier_below (x ∷ xs) s i zero d a b = absurd (omega (arith, a))
  earlier_below (x ∷ xs) s zero (suc j) d a b = each_at (λ y. cmp x y ≡ Less) xs j d s.0 (omega (arith, b))
  earlier_below (x ∷ xs) s (suc i) (suc j) d a b = earlier_below xs s.1 i j d (omega (arith, a)) (omega (arith, b))

  -- those below something come first
  pub parted : (xs : List A) (k : A) → IsStrictlySortedBy cmp xs → IsPartitionedBy (λ y. is_lt (cmp y k)) xs
  parted xs k s i j d a b l = go (nat_lt i j) refl
    where
      go : (t : Bool) → nat_lt i j ≡ t → is_lt (cmp (get_or xs i d) k) ≡ true
      go true e = ap is_lt (total.trans (get_or xs i d) (get_or xs j d) k (earlier_below xs s i j d (search (rules, e)) b) (is_less _ l))
      go false e = let same : j ≡ i = (let x : j ≤ i = search (rules, e) in omega (arith, x, a)) in subst (λ n. is_lt (cmp (get_or xs n d) k) ≡ true) same l

  -- where the test of being below parts the list, there the place is
  pub place_from_point : (xs : List A) (k : A) (at : ℕ) → at ≤ length xs → IsPartitionPoint (λ y. is_lt (cmp y k) ≡ true) (λ y. is_lt (cmp y k) ≡ false) xs at → IsPlace cmp xs k at
  place_from_point xs k at within point = record {
    within = within;
    below = recursion_from_All (λ y. cmp y k ≡ Less) (take at xs)
        (All-from_get_or (λ y. cmp y k ≡ Less) (take at xs) k
        (λ i b. let short = length-take-le at xs within in
        rw (get_or-take at xs i k (omega (arith, b, short))) (is_less (cmp (get_or xs i k) k) (point.0 i k (omega arith) (omega (arith, b, short))))));
    stops = λ other found. let inside = slice_get_within xs at other found in
        not_less (cmp other k) (subst (λ y. is_lt (cmp y k) ≡ false) (get_or_from_slice_get xs at other k found) (point.1 at k (omega arith) inside));
  }

  -- what isn't at its place isn't there
  pub absent : (xs : List A) (k : A) (at : ℕ) → IsStrictlySortedBy cmp xs → IsPlace cmp xs k at → (slice_get xs at ≡ Some k → ⊥) → Contains xs k → ⊥
  absent xs k at s p other h = before (nat_lt h.0 at) refl
    where
      self_less : cmp k k ≡ Less → ⊥
      self_less e = (cc (sym e ∙ alike k))

      later : (t : Bool) → nat_lt at h.0 ≡ t → at ≤ h.0 → ⊥
      later true e a = let x : at < h.0 = search (rules, e) in
          let y = slice_get-get_or xs at k (omega (arith, x, h.1)) in
          p.stops (get_or xs at k) y (subst (λ z. cmp (get_or xs at k) z ≡ Less) h.2 (earlier_below xs s at h.0 k x h.1))
      later false e a = let x : h.0 ≤ at = search (rules, e) in
          let same : h.0 ≡ at = omega (arith, x, a) in
          other (subst (λ n. slice_get xs n ≡ Some k) same (slice_get-get_or xs h.0 k h.1 ∙ ap Some h.2))

      before : (t : Bool) → nat_lt h.0 at ≡ t → ⊥
      before true e = let x : h.0 < at = search (rules, e) in
          let short = length-take-le at xs p.within in
          self_less (subst (λ z. cmp z k ≡ Less) (get_or-take at xs h.0 k x ∙ h.2) (each_at (λ y. cmp y k ≡ Less) (take at xs) h.0 k p.below (omega (arith, x, short))))
      before false e = let x : at ≤ h.0 = search (rules, e) in later (nat_lt at h.0) refl x
