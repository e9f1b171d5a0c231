-- Numbers that rise.
use Rattle.std.proofs.Common.{ℕ, ◌<◌, ◌≤◌, ◌+◌, List, length, get_or, nat_cmp, arith}
use Rattle.std.specs.List.Sorted.{IsStrictlySortedBy}
use Rattle.std.proofs.lemmas.Cmp.{nat_cmp_total}
use Rattle.std.proofs.lemmas.Map.Keys.{sorted_from_all_adjacent}
use Rattle.cqa_value.proofs.Words.{nat_cmp_less}

-- of the first n numbers each is below the next
abbrev pub RiseTo : List ℕ → ℕ → Type 0
RiseTo numbers n = (j : ℕ) → j + 1 < n → get_or numbers j 0 < get_or numbers (j + 1) 0

pub rise_all : (numbers : List ℕ) (n : ℕ) → RiseTo numbers n → length numbers ≤ n → IsStrictlySortedBy nat_cmp numbers
rise_all numbers n h all = sorted_from_all_adjacent nat_cmp_total numbers 0 (λ j l. nat_cmp_less (get_or numbers j 0) (get_or numbers (j + 1) 0) (h j (omega (arith, l, all))))
