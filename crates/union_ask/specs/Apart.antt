-- Parts of which a row is a candidate, and what they share.
use Rattle.std.specs.Prelude.{◌≡◌, ◌<◌, ℕ, Bool, true, false, List, slice_index_or}
use Rattle.cqa_value.specs.declared.value.Value.{Value}
use Rattle.cqa_model.specs.declared.query.Query.{Query}
use Rattle.cqa_model.specs.Database.{Table}
use Rattle.cqa_model.specs.Certain.{IsCandidate}
use Rattle.query_strategy.specs.Apart.{HasLoose, IsPartAt}

-- some table that isn't strict is in both queries
abbrev pub ShareLoose : Query → Query → Type 0
ShareLoose p q = (t : ℕ) × HasLoose p t × HasLoose q t

-- the part at a place, of which the row is a candidate
abbrev pub IsCandidateAt : List Table → List Query → List Value → ℕ → Query → Type 0
IsCandidateAt db parts row i q = IsPartAt parts i q × IsCandidate db q row

-- no table that isn't strict is in two of the parts of which the row is a candidate
abbrev pub AreApartFor : List Table → List Query → List Value → Type 0
AreApartFor db parts row = (i j : ℕ) (p q : Query) → i < j → IsCandidateAt db parts row i p → IsCandidateAt db parts row j q → ShareLoose p q → ⊥

-- the part at a place, which is given
abbrev pub IsGivenPart : List Query → List Bool → ℕ → Query → Type 0
IsGivenPart parts given i q = IsPartAt parts i q × (slice_index_or given i false ≡ true)

-- no table that isn't strict is in two of the parts that are given
abbrev pub AreApartAmong : List Query → List Bool → Type 0
AreApartAmong parts given = (i j : ℕ) (p q : Query) → i < j → IsGivenPart parts given i p → IsGivenPart parts given j q → ShareLoose p q → ⊥

-- a part shares a table that isn't strict with a later one that is given
abbrev pub SharesLater : List Query → List Bool → ℕ → Type 0
SharesLater parts given i = (j : ℕ) × (i < j) × ((p : Query) × (q : Query) × IsPartAt parts i p × IsGivenPart parts given j q × ShareLoose p q)
