-- What is asked where a least or a greatest value is looked for, and its range.
use Rattle.std.specs.Prelude.{◌≡◌, ℕ}
use Rattle.aggregate_range.specs.declared.aggregate.Goal.{Goal}
use Rattle.aggregate_range.specs.declared.aggregate.Goal.TheVariants.{Min, Max}
use Rattle.range_ask.specs.declared.range.Range.{Range}
use Rattle.range_join.specs.declared.carriers.Extreme.{Extreme}
use Rattle.range_join.specs.declared.carriers.Extreme.TheVariants.{Least, Greatest}
use Rattle.range_join.specs.declared.carriers.Look.{Look}
use Rattle.range_join.specs.declared.peaks.Peaks.{Peaks}
use Rattle.range_join.specs.declared.sought.Sought.{Sought}
use Rattle.table_blocks.specs.Tables.{names_in}

-- the aggregate
abbrev pub goal_by : Extreme → ℕ → Goal
goal_by Least col = Min col
goal_by Greatest col = Max col

abbrev pub sought_by : Look → Sought
sought_by look = record { goal = goal_by look.way look.col; atom = look.atom }

-- both ends, and the names of the rows at the places of each
pub record IsRangeOfPeaks (table : ℕ) (peaks : Peaks) (range : Range) : Type 0 where
  pub least : range.least ≡ peaks.least
  pub low : range.low ≡ names_in table peaks.low.items
  pub greatest : range.greatest ≡ peaks.greatest
  pub high : range.high ≡ names_in table peaks.high.items
