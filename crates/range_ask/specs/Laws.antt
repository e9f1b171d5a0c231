-- The laws of ranges.
use Rattle.std.specs.Prelude.{◌≡◌, ◌↔◌, ℕ, true, List}
use Rattle.std.specs.List.Sorted.{IsStrictlySortedBy}
use Rattle.cqa_value.specs.declared.value.Value.{Value}
use Rattle.aggregate_range.specs.declared.aggregate.Goal.{Goal}
use Rattle.cqa_model.specs.Database.{Table, block_cmp}
use Rattle.cqa_model.specs.Repairs.{IsTableRepair}
use Rattle.cqa_model.specs.Blocks.{AreBlocks}
use Rattle.table_blocks.specs.declared.test.ColumnTest.{ColumnTest}
use Rattle.table_blocks.specs.Tables.{TestsHold}
use Rattle.range_ask.specs.declared.range.Range.{Range}
use Rattle.range_ask.specs.Ranges.{meets, IsRange}
use Rattle.range_ask.specs.Picks.{ArePicked}

-- The repairs of a table, in block order, are exactly the lists with one row of each of its blocks.
abbrev pub PicksAreRepairs : Type 0
PicksAreRepairs =
    (key : List ℕ) (rows : List (List Value)) (blocks : List (List (List Value))) (xs : List (List Value)) →
    AreBlocks key rows blocks → IsStrictlySortedBy (block_cmp key) rows → IsTableRepair key rows xs ↔ ArePicked blocks xs

-- The truth value of tests is that of the relation.
abbrev pub TestsAreMet : Type 0
TestsAreMet = (tests : List ColumnTest) (row : List Value) → (meets tests row ≡ true) ↔ TestsHold tests row

-- A range has one least and one greatest end.
abbrev pub EndsAreOne : Type 0
EndsAreOne =
    (db : List Table) (table : ℕ) (goal : Goal) (tests : List ColumnTest) (a b : Range) →
    IsRange db table goal tests a → IsRange db table goal tests b → (a.least ≡ b.least) × (a.greatest ≡ b.greatest)
