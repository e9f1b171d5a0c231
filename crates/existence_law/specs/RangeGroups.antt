-- Each aggregate of a table has its ranges by groups.
use Rattle.std.specs.Prelude.{ℕ, List}
use Rattle.aggregate_range.specs.declared.aggregate.Goal.{Goal}
use Rattle.cqa_model.specs.Database.{Table}
use Rattle.table_blocks.specs.declared.test.ColumnTest.{ColumnTest}
use Rattle.range_ask.specs.declared.groups.Group.{Group}
use Rattle.range_ask.specs.Groups.{AreGroups}

-- For each value that rows which meet some tests have in a column, an aggregate has a range, and these values are a list.
abbrev pub GroupsExist : Type 0
GroupsExist = (db : List Table) (table : ℕ) (goal : Goal) (tests : List ColumnTest) (col : ℕ) → (groups : List Group) × AreGroups db table goal tests col groups
