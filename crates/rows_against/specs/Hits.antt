-- Which rows hit a witness: where such a row is kept, the witness is not.
use Rattle.std.specs.Prelude.{◌≢◌, ℕ, ◌<◌, List, length, Contains, Option, Some, None, slice_index_or}
use Rattle.cqa_model.specs.declared.query.RowId.{RowId}
use Rattle.cqa_model.specs.Database.{Table}
use Rattle.join_access.specs.Listing.{no_name}
use Rattle.rows_against.specs.Against.{AreOfOneBlock}

-- a row is another row of a row's block
abbrev pub IsRival : List Table → RowId → RowId → Type 0
IsRival db a b = AreOfOneBlock db a b × (a.place ≢ b.place)

-- a row hits a witness: it is another row of the block of one of the witness's rows
abbrev pub Hits : List Table → RowId → List RowId → Type 0
Hits db name witness = (own : RowId) × Contains witness own × IsRival db name own

-- each of these witnesses is hit by one of these rows
abbrev pub AreHit : List Table → List (List RowId) → List RowId → Type 0
AreHit db all names = (witness : List RowId) → Contains all witness → (name : RowId) × Contains names name × Hits db name witness

-- the number of the one of these rows that is another row of a row's block, if one is
abbrev pub IsHitBy : List Table → List RowId → RowId → Option ℕ → Type 0
IsHitBy db names own (Some number) = (number < length names) × IsRival db (slice_index_or names number no_name) own
IsHitBy db names own None = (name : RowId) → Contains names name → IsRival db name own → ⊥
