-- Block order: rows of one key stand side by side.
use Rattle.std.proofs.Common.{◌≡◌, ℕ, ◌<◌, ◌≤◌, List, [], ◌∷◌, length, get_or, refl, ap, sym, ◌∙◌, subst, arith}
use native.Mathlib.Decide.{ℕ_discrete}
use Rattle.std.specs.List.Sorted.{IsStrictlySortedBy}
use Rattle.std.specs.Ordering.{ordering_reverse, ordering_then}
use Rattle.std.specs.declared.cmp.Ordering.{Ordering}
use Rattle.std.specs.declared.cmp.Ordering.TheVariants.{Less, Equal, Greater}
use Rattle.std.proofs.lemmas.Map.Keys.{Less-from_sorted}
use Rattle.cqa_value.specs.declared.value.Value.{Value}
use Rattle.cqa_value.specs.Values.{row_cmp, row_cmp_total}
pub use Rattle.cqa_value.proofs.RowOrder.{block_total, row_exact}
use Rattle.cqa_model.specs.Database.{key_of, block_cmp}
use Rattle.cqa_model.specs.Repairs.{SharesKey}
use Rattle.cqa_model.proofs.Classic.{mem-head, mem-tail, map_agree}
use Rattle.cqa_model.proofs.Repairs.{shares-eq}

-- two rows share a key exactly where their key's values are the same
pub shares-from_key : (key : List ℕ) (x y : List Value) → key_of key x ≡ key_of key y → SharesKey key x y
shares-from_key key x y e p m = map_agree _ _ key e p m

pub key-from_shares : (key : List ℕ) (x y : List Value) → SharesKey key x y → key_of key x ≡ key_of key y
key-from_shares [] x y s = refl
key-from_shares (p ∷ key) x y s =
    let e = s p (mem-head p key) in
    let es : key_of key x ≡ key_of key y = key-from_shares key x y (λ r m. s r (mem-tail r p key m)) in
    cc

-- between two rows of one key stand only rows of this key
key-between : (key : List ℕ) (x y z : List Value) → block_cmp key x y ≡ Less → block_cmp key y z ≡ Less → SharesKey key x z → SharesKey key x y
key-between key x y z xy yz s = go (row_cmp (key_of key x) (key_of key y)) refl
  where
    back : row_cmp (key_of key y) (key_of key z) ≡ ordering_reverse (row_cmp (key_of key x) (key_of key y))
    back = ap (row_cmp (key_of key y)) (sym (key-from_shares key x z s)) ∙ row_cmp_total.antisymm (key_of key y) (key_of key x)

    go : (o : Ordering) → row_cmp (key_of key x) (key_of key y) ≡ o → SharesKey key x y
    go Equal e = shares-from_key key x y (row_exact (key_of key x) (key_of key y) e)
    go Greater e = let h : ordering_then Greater (row_cmp x y) ≡ Less = subst (λ o. ordering_then o (row_cmp x y) ≡ Less) e xy in cc
    go Less e = let h : ordering_then Greater (row_cmp y z) ≡ Less = subst (λ o. ordering_then o (row_cmp y z) ≡ Less) (back ∙ ap ordering_reverse e) yz in cc

-- rows of one key stand side by side
pub grouped : (key : List ℕ) (rows : List (List Value)) → IsStrictlySortedBy (block_cmp key) rows → (i j k : ℕ) → i ≤ j → j ≤ k → k < length rows →
    SharesKey key (get_or rows i []) (get_or rows k []) → SharesKey key (get_or rows i []) (get_or rows j [])
grouped key rows sorted i j k ij jk l s = go (ℕ_discrete i j) (ℕ_discrete j k)
  where
    go : Dec (i ≡ j) → Dec (j ≡ k) → SharesKey key (get_or rows i []) (get_or rows j [])
    go (yes e) d = shares-eq key (get_or rows i []) (get_or rows j []) (ap (λ n. get_or rows n []) e)
    go (no f) (yes e) = subst (λ n. SharesKey key (get_or rows i []) (get_or rows n [])) (sym e) s
    go (no f) (no g) = key-between key (get_or rows i []) (get_or rows j []) (get_or rows k [])
        (Less-from_sorted (block_cmp key) rows i j [] sorted (omega arith) (omega arith)) (Less-from_sorted (block_cmp key) rows j k [] sorted (omega arith) l) s
