-- One row of each block, and which row is taken of a block.
use Rattle.std.specs.Prelude.{◌≡◌, ℕ, Bool, true, pos, ℤ, ◌≤ℤ◌, if◌then◌else◌, List, [], Option, Some, None, Contains}
use Rattle.std.specs.List.{AllZip}
use Rattle.std.specs.List.Sorted.{IsStrictlySortedBy}
use Rattle.cqa_value.specs.declared.value.Value.{Value}
use Rattle.cqa_model.specs.Database.{Table, block_cmp}
use Rattle.cqa_model.specs.Blocks.{AreBlocks}
use Rattle.table_blocks.specs.Tables.{rows_at, key_at}
use Rattle.range_ask.specs.declared.way.Way.{Way}
use Rattle.range_ask.specs.declared.way.Way.TheVariants.{Up, Down}
use Rattle.range_ask.specs.Ranges.{cell, AtMost}

-- one row of each block, in their order
abbrev pub ArePicked : List (List (List Value)) → List (List Value) → Type 0
ArePicked blocks xs = AllZip (λ (b : List (List Value)) x. Contains b x) blocks xs

-- a table's rows are in block order, and these are its blocks
pub record IsInBlocks (db : List Table) (table : ℕ) (blocks : List (List (List Value))) : Type 0 where
  pub in_order : IsStrictlySortedBy (block_cmp (key_at db table)) (rows_at db table)
  pub blocks_are : AreBlocks (key_at db table) (rows_at db table) blocks

-- what a row is worth: its number if it meets the tests, and else 0
abbrev pub worth : (List Value → Bool) → (List Value → ℤ) → List Value → ℤ
worth p f x = if p x then f x else pos 0

-- a row of a block that is worth least, or most
pub record IsCheapest (f : List Value → ℤ) (block : List (List Value)) (x : List Value) : Type 0 where
  pub there : Contains block x
  pub least : (y : List Value) → Contains block y → f x ≤ℤ f y

pub record IsDearest (f : List Value → ℤ) (block : List (List Value)) (x : List Value) : Type 0 where
  pub there : Contains block x
  pub most : (y : List Value) → Contains block y → f y ≤ℤ f x

-- one value doesn't lie further that way than another
abbrev pub Before : Way → Value → Value → Type 0
Before Up x y = AtMost x y
Before Down x y = AtMost y x

abbrev pub turned : Way → Way
turned Up = Down
turned Down = Up

-- a row whose value in a column lies furthest that way of some rows; none where there are no rows
abbrev pub IsExtreme : Way → ℕ → List (List Value) → Option (List Value) → Type 0
IsExtreme way col rows None = rows ≡ []
IsExtreme way col rows (Some x) = Contains rows x × ((y : List Value) → Contains rows y → Before way (cell y col) (cell x col))

-- a row that doesn't meet the tests; or all of the block do, and no value lies less far that way than its own
pub record AvoidsFar (way : Way) (p : List Value → Bool) (col : ℕ) (block : List (List Value)) (x : List Value) : Type 0 where
  pub there : Contains block x
  pub else_near : p x ≡ true → (y : List Value) → Contains block y → (p y ≡ true) × Before way (cell x col) (cell y col)

-- of the rows that meet the tests one whose value lies furthest that way; any row where none meets them
pub record MeetsFar (way : Way) (p : List Value → Bool) (col : ℕ) (block : List (List Value)) (x : List Value) : Type 0 where
  pub there : Contains block x
  pub far : (y : List Value) → Contains block y → p y ≡ true → (p x ≡ true) × Before way (cell y col) (cell x col)
