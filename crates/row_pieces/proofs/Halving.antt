-- Searches by halving, over items that a test parts.
use Rattle.std.proofs.Common.{◌≡◌, ◌+◌, ◌-◌, ◌<◌, ◌≤◌, ℕ, length, List, Bool, true, false, sym, ap, ◌∙◌, arith, slice_index_or, true≢false, get_or, drop, Some, slice_get}
use Rattle.std.proofs.lemmas.List.{get_or-drop}
use Rattle.std.proofs.lemmas.Option.{get_or_from_slice_get}
use Rattle.std.specs.List.{AllWithin, HoldsAt}
use Rattle.std.specs.List.Sorted.{IsPartitionedBy}
use Rattle.std.proofs.lemmas.Bool.{false_from_ne_true}

pub front_passes : {X : Type 0} (p : X → Bool) (xs : List X) (at : ℕ) → IsPartitionedBy p xs → at < length xs → HoldsAt (λ y. p y ≡ true) xs at → AllWithin (λ y. p y ≡ true) xs 0 (at + 1)
front_passes p xs at h l q k d a b = h k at d (omega (arith, b)) l (q d)

pub back_fails : {X : Type 0} (p : X → Bool) (xs : List X) (at : ℕ) → IsPartitionedBy p xs → at < length xs → HoldsAt (λ y. p y ≡ false) xs at → AllWithin (λ y. p y ≡ false) xs at (length xs)
back_fails p xs at h l q k d a b = false_from_ne_true (p (slice_index_or xs k d)) (λ t. true≢false (sym (h at k d a b t) ∙ q d))

-- what stands at a place among the items from another one on
pub seen_near : {X : Type 0} (xs ys : List X) (from at : ℕ) (x d : X) → ys ≡ drop from xs → from ≤ at → slice_get ys (at - from) ≡ Some x → get_or xs at d ≡ x
seen_near xs ys from at x d e l s =
    let far : at ≡ from + (at - from) = omega (arith, l) in
    ap (λ k. get_or xs k d) far
    ∙ sym (get_or-drop from xs (at - from) d)
    ∙ ap (λ zs. get_or zs (at - from) d) (sym e)
    ∙ get_or_from_slice_get ys (at - from) x d s
