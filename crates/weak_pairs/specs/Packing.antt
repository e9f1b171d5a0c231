-- Codes of lists of two small integers.
use Rattle.std.specs.Prelude.{ℕ, zero, suc, ◌*◌, ◌/◌, ◌%◌, ◌^◌, List, [], ◌∷◌, Option, Some, None, ℤ, pos, ◌-ℤ◌}
use Rattle.cqa_value.specs.declared.value.Value.{Value}
use Rattle.cqa_value.specs.declared.value.Value.TheVariants.{Int}
use Rattle.weak_pairs.specs.declared.packed.TheConstants.{HALF, SHIFT, MULTIPLIER}

-- the small integer that is so far above the least one
abbrev pub integer_of : ℕ → ℤ
integer_of n = pos n -ℤ HALF

-- the list of a code: no list of 0, and else the two integers that were joined
abbrev pub list_of : ℕ → Option (List Value)
list_of zero = None
list_of (suc c) = Some (Int (integer_of (c / SHIFT)) ∷ Int (integer_of (c % SHIFT)) ∷ [])

-- the bucket of a code, of so many; 0 is in none of them
abbrev pub bucket_of_code : ℕ → ℕ → ℕ
bucket_of_code buckets zero = buckets
bucket_of_code buckets (suc c) = suc c * MULTIPLIER % 2 ^ 64 / SHIFT * buckets / SHIFT
