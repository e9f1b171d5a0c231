-- The names of a table among names in order: the only one of a block is found beside the place of a row of the block.
use Rattle.std.proofs.Common.{◌≡◌, ◌<◌, ◌≤◌, ◌-◌, inl, inr, ℕ, List, [], length, get_or, sym, ◌∙◌, ap, subst, arith}
use Rattle.std.specs.List.Sorted.{IsStrictlySortedBy}
use native.Mathlib.Decide.{ℕ_discrete}
use Rattle.cqa_value.specs.declared.value.Value.{Value}
use Rattle.cqa_value.proofs.Words.{cases_le}
use Rattle.cqa_model.specs.declared.query.RowId.{RowId}
use Rattle.cqa_model.specs.Database.{block_cmp}
use Rattle.cqa_model.proofs.BlockOrder.{grouped}
use Rattle.cqa_model.proofs.Repairs.{shares-sym, shares-trans}
use Rattle.rows_against.specs.Parts.{kept_name_at, IsOfTable, IsBelow, IsTablePart, IsInBlock, AreOfOwnBlocks, IsOtherOfBlock}

module _ (names : List RowId) (from table : ℕ) (part : IsTablePart names from table) where
  -- from the first of the part on, names of the table that are at places before another come first
  pub below_before : (place j k : ℕ) → from ≤ j → j ≤ k → k < length names → IsBelow names table place k → IsBelow names table place j
  below_before place j k fj jk l below = go (ℕ_discrete j k)
    where
      go : Dec (j ≡ k) → IsBelow names table place j
      go (yes e) = subst (λ i. IsBelow names table place i) (sym e) below
      go (no ne) =
          let earlier = part.rising j k fj (omega (arith, jk, ne)) (omega (arith, fj, jk), l, below.0) in
          let less = earlier.1 in
          let last = below.1 in
          (earlier.0, omega (arith, less, last))

  -- places of the table don't fall
  pub up_to : (j k : ℕ) → from ≤ j → j ≤ k → IsOfTable names from table k → ((kept_name_at names j).table ≡ table) × ((kept_name_at names j).place ≤ (kept_name_at names k).place)
  up_to j k fj jk of = go (ℕ_discrete j k)
    where
      go : Dec (j ≡ k) → ((kept_name_at names j).table ≡ table) × ((kept_name_at names j).place ≤ (kept_name_at names k).place)
      go (yes e) = subst (λ i. ((kept_name_at names i).table ≡ table) × ((kept_name_at names i).place ≤ (kept_name_at names k).place)) (sym e) (of.2, omega arith)
      go (no ne) = let earlier = part.rising j k fj (omega (arith, jk, ne)) of in let less = earlier.1 in (earlier.0, omega (arith, less))

module _ (key : List ℕ) (rows : List (List Value)) (names : List RowId) (from : ℕ) (own : RowId) (order : IsStrictlySortedBy (block_cmp key) rows) (there : own.place < length rows)
    (part : IsTablePart names from own.table) (apart : AreOfOwnBlocks key rows names from own.table) (at : ℕ) (after : from ≤ at) (within : at ≤ length names)
    (before : (k : ℕ) → from ≤ k → k < at → IsBelow names own.table own.place k) (behind : (k : ℕ) → at ≤ k → k < length names → IsBelow names own.table own.place k → ⊥) where
  abbrev row_at : ℕ → List Value
  row_at p = get_or rows p []

  abbrev place : ℕ → ℕ
  place k = (kept_name_at names k).place

  -- the name itself is the only one of its block
  pub only_own : IsInBlock key rows names own at → place at ≡ own.place → (k : ℕ) → IsOtherOfBlock key rows names from own k → ⊥
  only_own here same k other =
      let block = other.1 in
      let shares = shares-trans key (row_at (place k)) (row_at own.place) (row_at (place at)) block.2 (shares-sym key (row_at (place at)) (row_at own.place) here.2) in
      let one : k ≡ at = apart.apart k at (other.0, block.0, block.1) (after, here.0, here.1) shares in
      other.2 (ap place one ∙ same)

  -- the name before the others
  pub last_before : from < at → IsInBlock key rows names own (at - 1) → IsOtherOfBlock key rows names from own (at - 1)
  last_before more here = let b = (before (at - 1) (omega (arith, more)) (omega (arith, more))).1 in (omega (arith, more), here, λ e. omega (arith, b, e))

  none_before : (from < at → IsInBlock key rows names own (at - 1) → ⊥) → (k : ℕ) → IsOtherOfBlock key rows names from own k → k < at → ⊥
  none_before not k other less =
      let low = other.0 in
      let block = other.1 in
      let j = at - 1 in
      let more : from < at = omega (arith, low, less) in
      let mine = before j (omega (arith, more)) (omega (arith, more)) in
      let below = mine.1 in
      let up = (up_to names from own.table part k j low (omega (arith, less)) (omega (arith, more), omega (arith, more, within), mine.0)).1 in
      let near = grouped key rows order (place k) (place j) own.place up (omega (arith, below)) there block.2 in
      let shares = shares-trans key (row_at (place j)) (row_at (place k)) (row_at own.place) (shares-sym key (row_at (place k)) (row_at (place j)) near) block.2 in
      not more (omega (arith, more, within), mine.0, shares)

  none_behind : (IsInBlock key rows names own at → ⊥) → (k : ℕ) → IsOtherOfBlock key rows names from own k → at ≤ k → ⊥
  none_behind not k other up =
      let block = other.1 in
      let here = up_to names from own.table part at k after up (other.0, block.0, block.1) in
      let high = here.1 in
      let short = block.0 in
      let low : own.place ≤ place at = elim (cases_le own.place (place at)) [ inl l ↦ l | inr less ↦ absurd (behind at (omega arith) (omega (arith, up, short)) (here.0, less)) ] in
      let shares = grouped key rows order own.place (place at) (place k) low high (apart.there k (other.0, block.0, block.1)) (shares-sym key (row_at (place k)) (row_at own.place) block.2) in
      not (omega (arith, up, short), here.0, shares-sym key (row_at own.place) (row_at (place at)) shares)

  -- or there is none
  pub none_there : (IsInBlock key rows names own at → ⊥) → (from < at → IsInBlock key rows names own (at - 1) → ⊥) → (k : ℕ) → IsOtherOfBlock key rows names from own k → ⊥
  none_there not_at not_before k other = elim (cases_le at k) [ inl up ↦ none_behind not_at k other up | inr less ↦ none_before not_before k other less ]
