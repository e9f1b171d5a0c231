-- Of each block of a table a place that adds least, or most.
use Rattle.std.specs.Prelude.{◌≡◌, ℕ, List, ℤ, ◌≤ℤ◌}
use Rattle.std.specs.List.{AllZip}
use Rattle.cqa_model.specs.Database.{Table}
use Rattle.aggregate_range.specs.declared.aggregate.End.TheVariants.{Number}
use Rattle.range_ask.specs.declared.range.Range.{Range}
use Rattle.range_ask.specs.Picks.{IsInBlocks}
use Rattle.range_join.specs.declared.spans.Span.{Span}
use Rattle.range_join.specs.Firsts.{StandsIn, spans_at, blocks_at}
use Rattle.range_join.specs.Worths.{sum_of}
use Rattle.table_blocks.specs.Tables.{names_in}

-- a place of a block that adds least of its places, or most
pub record IsLeastOf (w : ℕ → ℤ) (span : Span) (p : ℕ) : Type 0 where
  pub there : StandsIn span p
  pub least : (q : ℕ) → StandsIn span q → w p ≤ℤ w q

pub record IsMostOf (w : ℕ → ℤ) (span : Span) (p : ℕ) : Type 0 where
  pub there : StandsIn span p
  pub most : (q : ℕ) → StandsIn span q → w q ≤ℤ w p

-- one of each block, in block order
pub record AreLeastPlaces (w : ℕ → ℤ) (db : List Table) (table : ℕ) (places : List ℕ) : Type 0 where
  pub parted : IsInBlocks db table (blocks_at db table)
  pub each : AllZip (IsLeastOf w) (spans_at db table) places

pub record AreMostPlaces (w : ℕ → ℤ) (db : List Table) (table : ℕ) (places : List ℕ) : Type 0 where
  pub parted : IsInBlocks db table (blocks_at db table)
  pub each : AllZip (IsMostOf w) (spans_at db table) places

-- both ends are what the places of each add up to, with the names of the rows there
pub record IsSumRange (w : ℕ → ℤ) (table : ℕ) (low high : List ℕ) (range : Range) : Type 0 where
  pub least : range.least ≡ Number (sum_of w low)
  pub low_is : range.low ≡ names_in table low
  pub greatest : range.greatest ≡ Number (sum_of w high)
  pub high_is : range.high ≡ names_in table high
