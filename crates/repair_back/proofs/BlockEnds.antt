-- The ends of blocks of rows in block order.
use Rattle.std.proofs.Common.{ℕ, ◌<◌, ◌≤◌, ◌⊎◌, inl, inr, List, [], length, get_or, arith}
use Rattle.std.specs.List.Sorted.{IsStrictlySortedBy}
use Rattle.cqa_value.specs.declared.value.Value.{Value}
use Rattle.cqa_value.proofs.Words.{cases_le}
use Rattle.cqa_model.specs.Database.{block_cmp}
use Rattle.cqa_model.specs.Repairs.{SharesKey}
use Rattle.cqa_model.proofs.BlockOrder.{grouped}
use Rattle.cqa_model.proofs.Repairs.{shares-sym, shares-trans}
use Rattle.repair_back.specs.Walking.{BeginsBlock, IsBlockBetween}

module _ (key : List ℕ) (rows : List (List Value)) (order : IsStrictlySortedBy (block_cmp key) rows) (at end : ℕ) (within : end ≤ length rows) (above : at < end)
    (alike : (i : ℕ) → at ≤ i → i < end → SharesKey key (get_or rows at []) (get_or rows i [])) (stop : end < length rows → SharesKey key (get_or rows at []) (get_or rows end []) → ⊥) where
  pub block_end-is : BeginsBlock key rows at → IsBlockBetween key rows at end
  block_end-is begins = record {
    some = above;
    within = within;
    exactly = λ i l. (λ s. (low i l s (cases_le at i), high i l s (cases_le end i)), λ b. alike i b.0 b.1);
  }
    where
      low : (i : ℕ) → i < length rows → SharesKey key (get_or rows at []) (get_or rows i []) → (at ≤ i) ⊎ (i < at) → at ≤ i
      low i l s (inl b) = b
      low i l s (inr b) = absurd (begins i b (omega (arith, above, within)) (shares-sym key (get_or rows at []) (get_or rows i []) s))

      high : (i : ℕ) → i < length rows → SharesKey key (get_or rows at []) (get_or rows i []) → (end ≤ i) ⊎ (i < end) → i < end
      high i l s (inr b) = b
      high i l s (inl b) = absurd (stop (omega (arith, b, l)) (grouped key rows order at end i (omega (arith, above)) b l s))

  pub block_end-begins : BeginsBlock key rows end
  block_end-begins i l le s = go (cases_le at i)
    where
      go : (at ≤ i) ⊎ (i < at) → ⊥
      go (inl b) = stop le (shares-trans key (get_or rows at []) (get_or rows i []) (get_or rows end []) (alike i b l) s)
      go (inr b) = stop le (shares-trans key (get_or rows at []) (get_or rows i []) (get_or rows end [])
          (shares-sym key (get_or rows i []) (get_or rows at []) (grouped key rows order i at end (omega (arith, b)) (omega (arith, above)) le s)) s)

-- the row at a place is of the block that begins there, or before it
pub in-block : (key : List ℕ) (rows : List (List Value)) (start end at : ℕ) → IsBlockBetween key rows start end → at < length rows → SharesKey key (get_or rows start []) (get_or rows at []) → at < end
in-block key rows start end at block l s = ((block.exactly at l).0 s).1
