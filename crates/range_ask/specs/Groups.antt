-- Ranges by groups: one range for each value of a column, over the rows that have it.
use Rattle.std.specs.Prelude.{◌≡◌, ℕ, true, List, [], ◌∷◌, ◌++◌, map, All, Contains}
use Rattle.std.specs.List.Sorted.{IsStrictlySortedBy}
use Rattle.cqa_value.specs.declared.value.Value.{Value}
use Rattle.cqa_value.specs.Values.{value_cmp}
use Rattle.aggregate_range.specs.declared.aggregate.Goal.{Goal}
use Rattle.cqa_model.specs.declared.query.Op.TheVariants.{Eq}
use Rattle.cqa_model.specs.declared.query.RowId.{RowId}
use Rattle.cqa_model.specs.Database.{Table}
use Rattle.table_blocks.specs.declared.test.ColumnTest.{ColumnTest}
use Rattle.table_blocks.specs.Tables.{rows_at}
use Rattle.range_ask.specs.declared.groups.Group.{Group}
use Rattle.range_ask.specs.Ranges.{cell, meets, IsRange}

-- the tests, and that a column has a value
abbrev pub tests_with : List ColumnTest → ℕ → Value → List ColumnTest
tests_with tests col value = tests ++ record { col = col; op = Eq; value = value } ∷ []

-- both ends of a group are those of the range over the rows that have its value: two repairs have them
pub record IsGroup (db : List Table) (table : ℕ) (goal : Goal) (tests : List ColumnTest) (col : ℕ) (group : Group) : Type 0 where
  pub low : List RowId
  pub high : List RowId
  pub is : IsRange db table goal (tests_with tests col group.value) (record { least = group.least; low = low; greatest = group.greatest; high = high })

-- a stored row that meets the tests has a value in a column
pub record HasMember (db : List Table) (table : ℕ) (tests : List ColumnTest) (col : ℕ) (value : Value) : Type 0 where
  pub row : List Value
  pub stored : Contains (rows_at db table) row
  pub meets_them : meets tests row ≡ true
  pub has : cell row col ≡ value

-- the values of groups
abbrev pub group_values : List Group → List Value
group_values groups = map (λ group. group.value) groups

-- one group for each value that a stored row which meets the tests has in a column, by ascending values
pub record AreGroups (db : List Table) (table : ℕ) (goal : Goal) (tests : List ColumnTest) (col : ℕ) (groups : List Group) : Type 0 where
  pub ranges : All (IsGroup db table goal tests col) groups
  pub ascend : IsStrictlySortedBy value_cmp (group_values groups)
  pub whole : (row : List Value) → Contains (rows_at db table) row → meets tests row ≡ true → Contains (group_values groups) (cell row col)
  pub members : All (λ group. HasMember db table tests col group.value) groups
