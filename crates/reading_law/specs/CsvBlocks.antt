-- What a block of CSV holds.
use Rattle.std.specs.Prelude.{◌⊎◌, ℕ, List}
use Rattle.cqa_value.specs.declared.value.Kind.{Kind}
use Rattle.cqa_value.specs.declared.value.Value.{Value}
use Rattle.table_blocks.specs.Tables.{AreValidRows}
use Rattle.csv_rows.specs.Blocks.{HoldsRows, IsFirstBad}

-- The law: a block of CSV holds valid rows, or has a first record that is no row.
abbrev pub BlocksAreRead : Type 0
BlocksAreRead = (kinds : List Kind) (block : List ℕ) → ((rows : List (List Value)) × HoldsRows kinds block rows × AreValidRows rows) ⊎ ((number : ℕ) × IsFirstBad kinds block number)
