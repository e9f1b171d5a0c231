-- Buckets of rows by a number that is the same for the same values, or for the same code of two small integers.
use Rattle.std.specs.Prelude.{ℕ, ◌%◌, List, map, Option, Some, None, slice_index, slice_index_or}
use Rattle.cqa_value.specs.declared.value.Value.{Value}
use Rattle.value_numbers.specs.Digests.{digest}
use Rattle.weak_pairs.specs.declared.lists.ListForm.{ListForm}
use Rattle.weak_pairs.specs.declared.lists.ListForm.TheVariants.{Packed, Borrowed}
use Rattle.weak_pairs.specs.Packing.{list_of, bucket_of_code}

-- the lists of rows, with what codes stand for
abbrev pub lists_in : ListForm → List (Option (List Value))
lists_in (Packed codes) = map list_of codes.items
lists_in (Borrowed lists) = lists.items

-- the bucket of a list, of so many; what is no list is in none of them
abbrev pub bucket_of_list : ℕ → Option (List Value) → ℕ
bucket_of_list buckets None = buckets
bucket_of_list buckets (Some x) = digest x % buckets

-- the bucket of the list of a row, of so many
abbrev pub bucket_of : ℕ → ListForm → ℕ → ℕ
bucket_of buckets (Packed codes) i = bucket_of_code buckets (slice_index codes.items i)
bucket_of buckets (Borrowed lists) i = bucket_of_list buckets (slice_index_or lists.items i None)
