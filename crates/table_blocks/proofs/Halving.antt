-- Searches by halving, and within a part, over items that a test parts.
use Rattle.std.proofs.Common.{◌≡◌, ◌+◌, ◌-◌, ◌/◌, ◌<◌, ◌≤◌, ◌^◌, ℕ, suc, zero, length, List, Bool, true, false, sym, subst, ◌∙◌, arith, slice_index_or, take, drop}
use Rattle.std.proofs.Math.Nat.{pow-suc}
use Rattle.std.specs.List.{AllWithin}
use Rattle.std.specs.List.Sorted.{IsPartitionedBy, IsPartitionPoint}
use Rattle.std.proofs.lemmas.List.{get_or-take, get_or-drop, length-take-le, length-drop}
use native.Mathlib.Decide.{dec_lt}

-- the half of a number has a digit less
pub halves : (size left : ℕ) → 0 < size → size < 2 ^ left → (e : ℕ) × (left ≡ e + 1) × (size / 2 < 2 ^ e)
halves size zero a b = absurd (omega (arith, a, b))
halves size (suc e) a b = (e, omega arith, let p = pow-suc 2 e in omega (arith, a, b, p))

-- a part of the items from a place to another, behind which the test fails and before which it holds
module _ {X : Type 0} (p : X → Bool) (xs : List X) (from to : ℕ) (order : from ≤ to) (within : to ≤ length xs) where
  part_at : (i : ℕ) (d : X) → i < to - from → slice_index_or (take (to - from) (drop from xs)) i d ≡ slice_index_or xs (from + i) d
  part_at i d l = get_or-take (to - from) (drop from xs) i d l ∙ get_or-drop from xs i d

  part_long : length (take (to - from) (drop from xs)) ≡ to - from
  part_long = let n = length-drop from xs in length-take-le (to - from) (drop from xs) (omega (arith, n, order, within))

  part_parted : IsPartitionedBy p xs → IsPartitionedBy p (take (to - from) (drop from xs))
  part_parted s i j d a b t =
      let l : j < to - from = omega (arith, b, part_long) in
      subst (λ y. p y ≡ true) (sym (part_at i d (omega (arith, a, l)))) (s (from + i) (from + j) d (omega (arith, a)) (omega (arith, l, order, within)) (subst (λ y. p y ≡ true) (part_at j d l) t))

  pub part_point : (at : ℕ) → at ≤ length (take (to - from) (drop from xs)) → IsPartitionedBy p xs → AllWithin (λ y. p y ≡ true) xs 0 from → AllWithin (λ y. p y ≡ false) xs to (length xs)
      → (IsPartitionedBy p (take (to - from) (drop from xs)) → IsPartitionPoint (λ y. p y ≡ true) (λ y. p y ≡ false) (take (to - from) (drop from xs)) at)
      → IsPartitionPoint (λ y. p y ≡ true) (λ y. p y ≡ false) xs (from + at)
  part_point at inside s front back found = (λ k d a b. before k d b (dec_lt k from), λ k d a b. behind k d a b (dec_lt k to))
    where
      point : IsPartitionPoint (λ y. p y ≡ true) (λ y. p y ≡ false) (take (to - from) (drop from xs)) at
      point = found (part_parted s)

      moved : (b : Bool) (k : ℕ) (d : X) → from ≤ k → k < to → p (slice_index_or (take (to - from) (drop from xs)) (k - from) d) ≡ b → p (slice_index_or xs k d) ≡ b
      moved b k d l r e = let same : from + (k - from) ≡ k = omega (arith, l) in subst (λ n. p (slice_index_or xs n d) ≡ b) same (subst (λ y. p y ≡ b) (part_at (k - from) d (omega (arith, l, r))) e)

      before : (k : ℕ) (d : X) → k < from + at → Dec (k < from) → p (slice_index_or xs k d) ≡ true
      before k d b (yes l) = front k d (omega arith) l
      before k d b (no n) = moved true k d (omega (arith, n)) (omega (arith, n, b, inside, part_long)) (point.0 (k - from) d (omega arith) (omega (arith, n, b)))

      behind : (k : ℕ) (d : X) → from + at ≤ k → k < length xs → Dec (k < to) → p (slice_index_or xs k d) ≡ false
      behind k d a b (yes l) = moved false k d (omega (arith, a)) l (point.1 (k - from) d (omega (arith, a)) (omega (arith, l, a, part_long)))
      behind k d a b (no n) = back k d (omega (arith, n)) b
