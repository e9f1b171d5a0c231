-- Each aggregate of a table has its range.
use Rattle.std.specs.Prelude.{ℕ, List}
use Rattle.aggregate_range.specs.declared.aggregate.Goal.{Goal}
use Rattle.cqa_model.specs.Database.{Table}
use Rattle.table_blocks.specs.declared.test.ColumnTest.{ColumnTest}
use Rattle.range_ask.specs.declared.range.Range.{Range}
use Rattle.range_ask.specs.Ranges.{IsRange}

-- An aggregate of a table's rows that meet some tests has a range: of its values in the repairs there is a least and a greatest one.
abbrev pub RangesExist : Type 0
RangesExist = (db : List Table) (table : ℕ) (goal : Goal) (tests : List ColumnTest) → (range : Range) × IsRange db table goal tests range
