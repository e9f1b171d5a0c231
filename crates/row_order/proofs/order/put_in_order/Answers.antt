use Rattle.std.proofs.Common.{◌≡◌, ◌∙◌, ap, subst, arith, List, ℕ}
use Rattle.std.specs.List.{dedup}
use Rattle.std.specs.Vec.{with_items}
use Rattle.std.specs.List.Sorted.{IsPermutation, IsStrictlySortedBy}
use Rattle.std.proofs.lemmas.List.{with_items_is}
use Rattle.std.proofs.lemmas.List.Kept.{IsStrictlySortedBy-dedup, Contains-dedup, Contains-from_dedup}
use Rattle.std.proofs.lemmas.List.Filters.{dedup_is}
use Rattle.std.proofs.lemmas.List.Sorted.{Contains-permutation, IsPermutation-sym, IsPermutation-trans, length_permutation}
use Rattle.cqa_value.specs.declared.value.Value.{Value}
use Rattle.cqa_value.specs.Values.{row_eq, row_equiv, row_decides, block_cmp}
use Rattle.row_order.proofs.BlockOrder.{block_total, block_ties}
use Rattle.row_order.proofs.Reordering.{order_is}
use Rattle.row_order.specs.Ordered.{block_order}
use Rattle.row_order.proofs.order.put_in_order.Goals as goal

-- a permutation that ascends is the block order
arranged : (key : List ℕ) (rows moved : List (List Value)) → IsPermutation rows moved → IsStrictlySortedBy (block_cmp key) moved → moved ≡ block_order key rows
arranged key rows moved p s = order_is key moved rows s (λ row. (λ h. Contains-permutation _ _ row (IsPermutation-sym _ _ p) h, λ h. Contains-permutation _ _ row p h))

pub returns-then-ascend_arranged : goal.returns-then-ascend_arranged
returns-then-ascend_arranged c =
    let moved = subst (λ rows. IsPermutation rows c.ascend_arranged.new.rows) c.as_mut_slice.ensures.value c.ascend_arranged.ensures.permutation in
    let long = length_permutation _ _ moved in
    with_items_is c.args.rows.now c.ascend_arranged.new.rows (let whole = c.args.rows.now.ok.0 in omega (arith, long, whole))
    ∙ arranged c.args.key.now c.args.rows.now.items c.ascend_arranged.new.rows moved (c.ascend_arranged.ensures.ascending c.if-ascend_arranged.true)

pub returns : goal.returns
returns c =
    let placed = subst (λ rows. IsPermutation rows c.ascend_arranged.new.rows) c.as_mut_slice.ensures.value c.ascend_arranged.ensures.permutation in
    let placed_long = length_permutation _ _ placed in
    let placed_is = with_items_is c.args.rows.now c.ascend_arranged.new.rows (let whole = c.args.rows.now.ok.0 in omega (arith, placed_long, whole)) in
    let moved = IsPermutation-trans _ _ _ placed (subst (λ rows. IsPermutation rows c.sort_rows.new.rows) (c.as_mut_slice-2.ensures.value ∙ placed_is) c.sort_rows.ensures.permutation) in
    let long = length_permutation _ _ moved in
    let is = with_items_is (with_items c.args.rows.now c.ascend_arranged.new.rows) c.sort_rows.new.rows (let whole = c.args.rows.now.ok.0 in omega (arith, long, whole)) in
    rw (dedup_is row_eq _ _ c.dedup.ensures.filtered)
    (ap (dedup row_eq) is
    ∙ order_is c.args.key.now _ c.args.rows.now.items
    (IsStrictlySortedBy-dedup (block_total c.args.key.now) (block_ties c.args.key.now) _ c.sort_rows.ensures.sorted)
    (λ row. (
      λ h. Contains-permutation _ _ row (IsPermutation-sym _ _ moved) (Contains-from_dedup row_eq _ row h),
      λ h. Contains-dedup row_equiv (λ x y e. (row_decides x y).0 e) _ row (Contains-permutation _ _ row moved h),
    )))
