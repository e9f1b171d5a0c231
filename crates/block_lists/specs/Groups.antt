-- Groups: blocks and lists of their rows within the limits.
use Rattle.std.specs.Prelude.{ℕ, ◌<◌, ◌≤◌, List, Contains, length}
use Rattle.std.specs.List.{sum}
use Rattle.block_choices.specs.declared.row.BlockRow.{BlockRow}
use Rattle.block_lists.specs.declared.limits.TheConstants.{MOST_GROUP_LISTS, MOST_GROUP_ROWS}
use Rattle.block_choices.specs.Choices.{AreThere}

-- A group: blocks of one row or more, told by their sizes, and lists of their rows, within the limits.
pub record IsGroup (sizes : List ℕ) (lists : List (List BlockRow)) : Type 0 where
  pub some : (s : ℕ) → Contains sizes s → 0 < s
  pub few : sum sizes ≤ MOST_GROUP_ROWS
  pub short : length lists ≤ MOST_GROUP_LISTS
  pub there : AreThere sizes lists
