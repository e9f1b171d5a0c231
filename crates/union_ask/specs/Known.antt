-- The certain rows of queries, as far as they are known without a search.
use Rattle.std.specs.Prelude.{◌≡◌, ◌<◌, ℕ, Bool, true, false, Option, None, Some, List, length, Contains, slice_index_or}
use Rattle.std.specs.List.Sorted.{IsStrictlySortedBy}
use Rattle.cqa_value.specs.declared.value.Value.{Value}
use Rattle.cqa_value.specs.Values.{row_cmp}
use Rattle.cqa_model.specs.declared.query.Query.{Query}
use Rattle.cqa_model.specs.Database.{Table}
use Rattle.cqa_model.specs.Certain.{IsCertainAnswer}
use Rattle.table_blocks.specs.declared.bound.Bound.{Bound}
use Rattle.query_strategy.specs.Strategies.{NeedsSearch}

-- the certain rows of a query; nothing exactly where it needs a search
abbrev pub IsKnown : List Table → Query → Option (List (List Value)) → Type 0
IsKnown db q None = NeedsSearch q
IsKnown db q (Some rows) = IsCertainAnswer db q rows × (NeedsSearch q → ⊥)

-- those of a query over its database
abbrev pub IsKnownFor : Bound → Option (List (List Value)) → Type 0
IsKnownFor bound known = IsKnown bound.db.now bound.query.now known

-- the rows of each query that are known ascend
abbrev pub AreAscending : List (Option (List (List Value))) → Type 0
AreAscending known = (rows : List (List Value)) → Contains known (Some rows) → IsStrictlySortedBy row_cmp rows

-- the rows of a query are known, and the row is one of them
abbrev pub HoldsRow : Option (List (List Value)) → List Value → Type 0
HoldsRow known row = (rows : List (List Value)) × (known ≡ Some rows) × Contains rows row

-- of which queries it is spoken
abbrev pub IsGivenAt : List (Option (List (List Value))) → List Bool → ℕ → Type 0
IsGivenAt known given i = (i < length known) × (slice_index_or given i false ≡ true)

-- the row is a known row of one of these queries
abbrev pub IsAmong : List (Option (List (List Value))) → List Bool → List Value → Type 0
IsAmong known given row = (i : ℕ) × IsGivenAt known given i × HoldsRow (slice_index_or known i None) row

-- the rows of each of these queries are known
abbrev pub AreKnownAmong : List (Option (List (List Value))) → List Bool → Type 0
AreKnownAmong known given = (i : ℕ) → IsGivenAt known given i → (rows : List (List Value)) × (slice_index_or known i None ≡ Some rows)
