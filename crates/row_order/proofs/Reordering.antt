-- Rows that are put in block order: there is one such list of them.
use Rattle.std.proofs.Common.{◌≡◌, ◌⊎◌, ◌↔◌, inl, inr, ℕ, ◌+◌, length, arith, List, [], ◌∷◌, Contains, refl, sym, ap, ◌∙◌, subst}
use Rattle.std.specs.List.Sorted.{IsStrictlySortedBy}
use Rattle.std.specs.Ordering.{ordering_reverse}
use Rattle.std.specs.declared.cmp.Ordering.{Ordering}
use Rattle.std.specs.declared.cmp.Ordering.TheVariants.{Less, Equal, Greater}
use Rattle.cqa_value.specs.declared.value.Value.{Value}
use Rattle.cqa_value.proofs.Words.{mem-tail, mem-cases, mem-head, mem-nil, member_by_recursion, sorted_cons}
use Rattle.cqa_value.specs.Values.{block_cmp}
use Rattle.row_order.specs.Ordered.{by_ordering, with_row, block_order}
use Rattle.row_order.proofs.BlockOrder.{block_total, block_exact, block_alike}

module _ (key : List ℕ) where
  cmp : List Value → List Value → Ordering
  cmp = block_cmp key

  abbrev IsInOrder : List (List Value) → Type 0
  IsInOrder rows = IsStrictlySortedBy (block_cmp key) rows

  tail_sorted : (x : List Value) (rows : List (List Value)) → IsInOrder (x ∷ rows) → IsInOrder rows
  unfolding IsStrictlySortedBy
  tail_sorted x rows s = s.1

  head_below : (x : List Value) (rows : List (List Value)) → IsInOrder (x ∷ rows) → (y : List Value) → Contains rows y → block_cmp key x y ≡ Less
  unfolding IsStrictlySortedBy
  head_below x rows s = member_by_recursion (λ y. block_cmp key x y ≡ Less) rows s.0

  no_rows : IsInOrder []
  unfolding IsStrictlySortedBy
  no_rows = tt

  joined : (x : List Value) (rows : List (List Value)) → ((y : List Value) → Contains rows y → block_cmp key x y ≡ Less) → IsInOrder rows → IsInOrder (x ∷ rows)
  joined = sorted_cons (block_cmp key)

  with_row-members : (row : List Value) (rows : List (List Value)) (x : List Value) → Contains (with_row key row rows) x ↔ ((row ≡ x) ⊎ Contains rows x)
  with_row-members row [] x = (λ h. mem-cases x row [] h, λ h. elim h [ inl e ↦ subst (Contains (row ∷ [])) e (mem-head row []) | inr m ↦ absurd (mem-nil x m) ])
  with_row-members row (y ∷ rows) x = go (block_cmp key row y) refl (with_row-members row rows x)
    where
      go : (o : Ordering) → block_cmp key row y ≡ o → Contains (with_row key row rows) x ↔ ((row ≡ x) ⊎ Contains rows x)
          → Contains (by_ordering o (row ∷ (y ∷ rows)) (y ∷ rows) (y ∷ with_row key row rows)) x ↔ ((row ≡ x) ⊎ Contains (y ∷ rows) x)
      go Less e more = (λ h. mem-cases x row (y ∷ rows) h, λ h. elim h [ inl q ↦ subst (Contains (row ∷ (y ∷ rows))) q (mem-head row (y ∷ rows)) | inr m ↦ mem-tail x row (y ∷ rows) m ])
      go Equal e more = (λ h. inr h, λ h. elim h [ inl q ↦ subst (Contains (y ∷ rows)) (sym (block_exact key row y e) ∙ q) (mem-head y rows) | inr m ↦ m ])
      go Greater e more = (
        λ h. elim (mem-cases x y (with_row key row rows) h) [
          | inl q ↦ inr (subst (Contains (y ∷ rows)) q (mem-head y rows))
          | inr m ↦ elim (more.0 m) [ inl q ↦ inl q | inr l ↦ inr (mem-tail x y rows l) ]
        ],
        λ h. elim h [
          | inl q ↦ mem-tail x y (with_row key row rows) (more.1 (inl q))
          | inr m ↦ elim (mem-cases x y rows m) [
            | inl q ↦ subst (Contains (y ∷ with_row key row rows)) q (mem-head y (with_row key row rows))
            | inr l ↦ mem-tail x y (with_row key row rows) (more.1 (inr l))
          ]
        ],
      )

  with_row-sorted : (row : List Value) (rows : List (List Value)) → IsInOrder rows → IsInOrder (with_row key row rows)
  with_row-sorted row [] s = joined row [] (λ y m. absurd (mem-nil y m)) no_rows
  with_row-sorted row (y ∷ rows) s = go (block_cmp key row y) refl (with_row-sorted row rows (tail_sorted y rows s))
    where
      go : (o : Ordering) → block_cmp key row y ≡ o → IsInOrder (with_row key row rows) → IsInOrder (by_ordering o (row ∷ (y ∷ rows)) (y ∷ rows) (y ∷ with_row key row rows))
      go Less e more = joined row (y ∷ rows) (λ z m. elim (mem-cases z y rows m) [
        | inl q ↦ subst (λ z. block_cmp key row z ≡ Less) q e
        | inr l ↦ (block_total key).trans row y z e (head_below y rows s z l)
      ]) s
      go Equal e more = s
      go Greater e more = joined y (with_row key row rows) (λ z m. elim ((with_row-members row rows z).0 m) [
        | inl q ↦ subst (λ z. block_cmp key y z ≡ Less) q ((block_total key).antisymm y row ∙ ap ordering_reverse e)
        | inr l ↦ head_below y rows s z l
      ]) more

  pub order_sorted : (rows : List (List Value)) → IsInOrder (block_order key rows)
  order_sorted [] = no_rows
  order_sorted (row ∷ rows) = with_row-sorted row (block_order key rows) (order_sorted rows)

  pub order_members : (rows : List (List Value)) (x : List Value) → Contains (block_order key rows) x ↔ Contains rows x
  order_members [] x = (λ h. h, λ h. h)
  order_members (row ∷ rows) x =
      let more = order_members rows x in
      let here = with_row-members row (block_order key rows) x in (
        λ h. elim (here.0 h) [ inl q ↦ subst (Contains (row ∷ rows)) q (mem-head row rows) | inr m ↦ mem-tail x row rows (more.0 m) ],
        λ h. here.1 (elim (mem-cases x row rows h) [ inl q ↦ inl q | inr m ↦ inr (more.1 m) ]),
      )

  not_both : (x y : List Value) → block_cmp key x y ≡ Less → block_cmp key y x ≡ Less → ⊥
  not_both x y a b = let c = (block_total key).trans x y x a b in let e = block_alike key x in (cc)

  -- lists in block order that have the same rows are one
  pub ordered_once : (xs ys : List (List Value)) → IsInOrder xs → IsInOrder ys → ((x : List Value) → Contains xs x ↔ Contains ys x) → xs ≡ ys
  ordered_once [] [] s t same = refl
  ordered_once [] (y ∷ ys) s t same = absurd (mem-nil y ((same y).1 (mem-head y ys)))
  ordered_once (x ∷ xs) [] s t same = absurd (mem-nil x ((same x).0 (mem-head x xs)))
  ordered_once (x ∷ xs) (y ∷ ys) s t same =
      let first : x ≡ y = heads (mem-cases x y ys ((same x).0 (mem-head x xs))) (mem-cases y x xs ((same y).1 (mem-head y ys))) in
      let rest : xs ≡ ys = ordered_once xs ys (tail_sorted x xs s) (tail_sorted y ys t) (λ z. (
        λ m. elim (mem-cases z y ys ((same z).0 (mem-tail z x xs m))) [ inl q ↦ absurd (not_self x z (head_below x xs s z m) (first ∙ q)) | inr l ↦ l ],
        λ m. elim (mem-cases z x xs ((same z).1 (mem-tail z y ys m))) [ inl q ↦ absurd (not_self y z (head_below y ys t z m) (sym first ∙ q)) | inr l ↦ l ],
      )) in
      (λ i. first i ∷ rest i)
    where
      heads : (y ≡ x) ⊎ Contains ys x → (x ≡ y) ⊎ Contains xs y → x ≡ y
      heads (inl e) h = sym e
      heads (inr m) (inl e) = e
      heads (inr m) (inr n) = absurd (not_both x y (head_below x xs s y n) (head_below y ys t x m))

      not_self : (a z : List Value) → block_cmp key a z ≡ Less → a ≡ z → ⊥
      not_self a z less e = let q : block_cmp key a a ≡ Less = subst (λ z. block_cmp key a z ≡ Less) (sym e) less in let r = block_alike key a in (cc)

  -- rows in block order that have some rows are these rows' block order
  pub order_is : (xs rows : List (List Value)) → IsInOrder xs → ((x : List Value) → Contains xs x ↔ Contains rows x) → xs ≡ block_order key rows
  order_is xs rows s same = ordered_once xs (block_order key rows) s (order_sorted rows) (λ x. (
    λ h. (order_members rows x).1 ((same x).0 h),
    λ h. (same x).1 ((order_members rows x).0 h),
  ))

  with_row-long : (row : List Value) (rows : List (List Value)) → (Contains rows row → ⊥) → length (with_row key row rows) ≡ 1 + length rows
  with_row-long row [] apart = omega arith
  with_row-long row (y ∷ rows) apart = go (block_cmp key row y) refl (with_row-long row rows (λ m. apart (mem-tail row y rows m)))
    where
      go : (o : Ordering) → block_cmp key row y ≡ o → length (with_row key row rows) ≡ 1 + length rows → length (by_ordering o (row ∷ (y ∷ rows)) (y ∷ rows) (y ∷ with_row key row rows)) ≡ 1 + length (y ∷ rows)
      go Less e more = omega arith
      go Equal e more = absurd (apart (subst (Contains (y ∷ rows)) (sym (block_exact key row y e)) (mem-head y rows)))
      go Greater e more = omega (arith, more)

-- rows in the block order of one key are as many in that of another
pub order_long : (key old_key : List ℕ) (rows : List (List Value)) → IsStrictlySortedBy (block_cmp old_key) rows → length (block_order key rows) ≡ length rows
order_long key old_key [] s = refl
order_long key old_key (row ∷ rows) s =
    let more = order_long key old_key rows (tail_sorted old_key row rows s) in
    let one = with_row-long key row (block_order key rows) (λ m. not_self (head_below old_key row rows s row ((order_members key rows row).0 m))) in
    omega (arith, one, more)
  where
    not_self : block_cmp old_key row row ≡ Less → ⊥
    not_self e = let r = block_alike old_key row in (cc)
