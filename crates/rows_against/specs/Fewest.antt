-- Few of the rows that hit witnesses, by their numbers.
use Rattle.std.specs.Prelude.{◌≡◌, ℕ, ◌<◌, ◌≤◌, Bool, true, false, List, [], length, Contains, Option, Some, None, slice_index, slice_index_or}
use Rattle.rows_against.specs.declared.fewest.LastHit.{LastHit}

-- for each atom there is a number of so many witnesses, if any hits it there
abbrev pub AreWide : List (List (Option ℕ)) → ℕ → Type 0
AreWide hits count = (F : ℕ) → F < length hits → length (slice_index_or hits F []) ≡ count

-- a number hits a witness, at some atom
abbrev pub HasHit : List (List (Option ℕ)) → ℕ → ℕ → Type 0
HasHit hits witness number = (F : ℕ) × (F < length hits) × (slice_index_or (slice_index_or hits F []) witness None ≡ Some number)

-- and it is the greatest that does
abbrev pub IsLastHit : List (List (Option ℕ)) → ℕ → ℕ → Type 0
IsLastHit hits witness number = HasHit hits witness number × ((other : ℕ) → HasHit hits witness other → other ≤ number)

-- the greatest number that hits it, of each of so many witnesses
pub record AreLastHits (hits : List (List (Option ℕ))) (count : ℕ) (lasts : List LastHit) : Type 0 where
  pub each : (last : LastHit) → Contains lasts last → (last.witness < count) × IsLastHit hits last.witness last.number
  pub every : (witness : ℕ) → witness < count → (last : LastHit) × Contains lasts last × (last.witness ≡ witness)

-- a number that is marked hits the witness
abbrev pub IsHitAmong : List (List (Option ℕ)) → List Bool → ℕ → Type 0
IsHitAmong hits marks witness = (number : ℕ) × HasHit hits witness number × (slice_index_or marks number false ≡ true)

-- one of these numbers hits the witness
abbrev pub IsHitOf : List (List (Option ℕ)) → List ℕ → ℕ → Type 0
IsHitOf hits numbers witness = (number : ℕ) × HasHit hits witness number × Contains numbers number

-- a number is the greatest that hits some witness, and the only one of these that does
pub record IsNeeded (hits : List (List (Option ℕ))) (count : ℕ) (numbers : List ℕ) (number : ℕ) : Type 0 where
  pub witness : ℕ
  pub there : witness < count
  pub last : IsLastHit hits witness number
  pub alone : (other : ℕ) → HasHit hits witness other → Contains numbers other → other ≡ number

-- rising numbers, of which one hits each of so many witnesses, and each is needed for that
pub record AreFewest (hits : List (List (Option ℕ))) (count : ℕ) (numbers : List ℕ) : Type 0 where
  pub rising : (i j : ℕ) → i < j → j < length numbers → slice_index numbers i < slice_index numbers j
  pub hit : (witness : ℕ) → witness < count → IsHitOf hits numbers witness
  pub needed : (number : ℕ) → Contains numbers number → IsNeeded hits count numbers number
