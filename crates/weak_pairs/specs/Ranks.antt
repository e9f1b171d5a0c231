-- Rows in the order of their lists.
use Rattle.std.specs.Prelude.{◌≡◌, ℕ, ◌<◌, List, length, Contains, slice_index, slice_index_or, None, true, false}
use Rattle.std.specs.Ordering.{nat_cmp, is_lt}
use Rattle.std.specs.Option.{option_cmp}
use Rattle.std.specs.List.Sorted.{IsSortedBy, IsPartitionPoint}
use Rattle.std.specs.declared.cmp.Ordering.{Ordering}
use Rattle.cqa_value.specs.Values.{row_cmp}
use Rattle.weak_pairs.specs.declared.lists.ListForm.{ListForm}
use Rattle.weak_pairs.specs.declared.lists.ListForm.TheVariants.{Packed, Borrowed}
use Rattle.weak_pairs.specs.Digests.{lists_in}

-- rows compare as their codes do, where all have one, and else as their lists do, with what is no list first
abbrev pub list_cmp : ListForm → ℕ → ℕ → Ordering
list_cmp (Packed codes) i j = nat_cmp (slice_index codes.items i) (slice_index codes.items j)
list_cmp (Borrowed lists) i j = option_cmp row_cmp (slice_index_or lists.items i None) (slice_index_or lists.items j None)

-- all rows, in the order of their lists
pub record AreInOrder (lists : ListForm) (order : List ℕ) : Type 0 where
  pub sorted : IsSortedBy (λ i j. is_lt (list_cmp lists i j)) order
  pub all : (i : ℕ) → i < length (lists_in lists) → Contains order i
  pub size : length order ≡ length (lists_in lists)

-- so many rows have lesser lists
abbrev pub IsRank : ListForm → List ℕ → ℕ → ℕ → Type 0
IsRank lists order at rank = IsPartitionPoint (λ i. is_lt (list_cmp lists i at) ≡ true) (λ i. is_lt (list_cmp lists i at) ≡ false) order rank
