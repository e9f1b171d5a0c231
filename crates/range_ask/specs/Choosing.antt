-- What is chosen for both ends: one row of each block; and of these the rows of blocks of two or more.
use Rattle.std.specs.Prelude.{◌≡◌, ℕ, if◌then◌else◌, List, [], ◌∷◌, length}
use Rattle.std.specs.Option.{option_copied}
use Rattle.cqa_value.specs.declared.value.Value.{Value}
use Rattle.aggregate_range.specs.declared.aggregate.Goal.{Goal}
use Rattle.cqa_model.specs.declared.query.RowId.{RowId}
use Rattle.cqa_model.specs.Database.{Table}
use Rattle.table_blocks.specs.declared.test.ColumnTest.{ColumnTest}
use Rattle.range_ask.specs.declared.choice.Choice.{Choice}
use Rattle.range_ask.specs.declared.extremes.Extremes.{Extremes}
use Rattle.range_ask.specs.declared.ends.Ends.{Ends}
use Rattle.range_ask.specs.declared.range.Range.{Range}
use Rattle.range_ask.specs.declared.reach.Reach.{Reach}
use Rattle.range_ask.specs.Ranges.{IsRange}
use Rattle.range_ask.specs.Picks.{IsInBlocks}
use Rattle.range_ask.specs.Walking.{wide_of}
use Rattle.range_ask.specs.Reaching.{as_end, top_row, with_top}
use Rattle.row_blocks.specs.Conflicts.{is_conflict}
use Rattle.table_blocks.specs.Tables.{names_in}

-- of names, one for each block, those of blocks of two or more rows
abbrev pub wide_names : List (List (List Value)) → List RowId → List RowId
wide_names [] names = []
wide_names (block ∷ blocks) [] = []
wide_names (block ∷ blocks) (name ∷ names) = if is_conflict block then name ∷ wide_names blocks names else wide_names blocks names

-- the rows at the places of a choice are those of a range, one of each block, and these blocks have two or more rows
pub record IsRangeChoice (db : List Table) (table : ℕ) (goal : Goal) (tests : List ColumnTest) (choice : Choice) : Type 0 where
  pub parts : List (List (List Value))
  pub parted : IsInBlocks db table parts
  pub range : IsRange db table goal tests (record { least = choice.least; low = names_in table choice.low.items; greatest = choice.greatest; high = names_in table choice.high.items })
  pub low_each : length choice.low.items ≡ length parts
  pub high_each : length choice.high.items ≡ length parts
  pub wide : choice.wide.items ≡ wide_of parts

-- a choice has the rows of two lists, and their extreme values
pub record IsChoiceBetween (col : ℕ) (low high : Reach) (wide : List ℕ) (choice : Choice) : Type 0 where
  pub least_is : choice.least ≡ as_end col (option_copied low.extreme)
  pub low_is : choice.low.items ≡ low.places.items
  pub greatest_is : choice.greatest ≡ as_end col (option_copied high.extreme)
  pub high_is : choice.high.items ≡ high.places.items
  pub wide_is : choice.wide.items ≡ wide

-- the same rows for both ends, but one row more for the greatest
pub record IsLoose (col : ℕ) (found : Extremes) (choice : Choice) : Type 0 where
  pub high : Reach
  pub places_are : high.places.items ≡ with_top found.avoids.places.items found.top
  pub extreme_is : option_copied high.extreme ≡ top_row found.top
  pub between : IsChoiceBetween col found.avoids high found.wide.items choice

-- both ends of a range, and of the rows of each of its repairs those of blocks of two or more rows
pub record AreEnds (db : List Table) (table : ℕ) (goal : Goal) (tests : List ColumnTest) (ends : Ends) : Type 0 where
  pub parts : List (List (List Value))
  pub parted : IsInBlocks db table parts
  pub range : Range
  pub is : IsRange db table goal tests range
  pub least_is : ends.least ≡ range.least
  pub low_is : ends.low ≡ wide_names parts range.low
  pub greatest_is : ends.greatest ≡ range.greatest
  pub high_is : ends.high ≡ wide_names parts range.high
