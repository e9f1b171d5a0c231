-- Rows that share a key, and the starts and ends of blocks of rows in block order.
use Rattle.std.proofs.Common.{◌≡◌, ℕ, ◌<◌, ◌≤◌, ◌↔◌, ◌⊎◌, inl, inr, Bool, List, Some, [], length, get_or, slice_get, subst, sym}
use Rattle.std.specs.Bool.{IsTrue}
use Rattle.std.proofs.lemmas.Option.{get_or_from_slice_get}
use Rattle.std.specs.List.Sorted.{IsStrictlySortedBy}
use Rattle.cqa_value.specs.declared.value.Value.{Value}
use Rattle.cqa_value.proofs.Words.{cases_le}
use Rattle.cqa_model.specs.Database.{block_cmp}
use Rattle.cqa_model.specs.Repairs.{SharesKey}
use Rattle.cqa_model.proofs.BlockOrder.{grouped}
use Rattle.cqa_model.proofs.Repairs.{shares-sym, shares-trans}

pub goes : (key : List ℕ) (rows : List (List Value)) (at other : ℕ) (a b : List Value) (t : Bool) → slice_get rows at ≡ Some a → slice_get rows other ≡ Some b →
    IsTrue t ↔ SharesKey key a b → IsTrue t ↔ SharesKey key (get_or rows at []) (get_or rows other [])
goes key rows at other a b t ra rb same =
    let ea : a ≡ get_or rows at [] = sym (get_or_from_slice_get rows at a [] ra) in
    let eb : b ≡ get_or rows other [] = sym (get_or_from_slice_get rows other b [] rb) in
    subst (λ y. IsTrue t ↔ SharesKey key (get_or rows at []) y) eb (subst (λ x. IsTrue t ↔ SharesKey key x b) ea same)

module _ (key : List ℕ) (rows : List (List Value)) (order : IsStrictlySortedBy (block_cmp key) rows) (at : ℕ) where
  abbrev Shares : ℕ → Type 0
  Shares i = SharesKey key (get_or rows at []) (get_or rows i [])

  -- between a row of the block and the given one all rows are of the block
  pub shares-behind : at < length rows → (i j : ℕ) → i ≤ j → j ≤ at → Shares i → Shares j
  shares-behind there i j l u s =
      let back = shares-sym key (get_or rows at []) (get_or rows i []) s in
      shares-trans key (get_or rows at []) (get_or rows i []) (get_or rows j []) s (grouped key rows order i j at l u there back)

  pub shares-before : (i j : ℕ) → at ≤ j → j ≤ i → i < length rows → Shares i → Shares j
  shares-before i j l u there s = grouped key rows order at j i l u there s

  pub start-is : at < length rows → (start : ℕ) → start ≤ at → Shares start → ((i : ℕ) → i < start → Shares i → ⊥) → (i : ℕ) → i ≤ at → Shares i ↔ (start ≤ i)
  start-is there start below alike stop i up = (λ s. go s (cases_le start i), λ u. shares-behind there start i u up alike)
    where
      go : Shares i → (start ≤ i) ⊎ (i < start) → start ≤ i
      go s (inl u) = u
      go s (inr u) = absurd (stop i u s)

  pub end-is : (end : ℕ) → ((i : ℕ) → at ≤ i → i < end → Shares i) → ((i : ℕ) → end ≤ i → i < length rows → Shares i → ⊥) → (i : ℕ) → at ≤ i → i < length rows → Shares i ↔ (i < end)
  end-is end alike stop i l there = (λ s. go s (cases_le end i), λ u. alike i l u)
    where
      go : Shares i → (end ≤ i) ⊎ (i < end) → i < end
      go s (inl u) = absurd (stop i u there s)
      go s (inr u) = u
