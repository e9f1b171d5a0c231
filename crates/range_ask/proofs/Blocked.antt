-- A table's rows have blocks.
use Rattle.std.proofs.Common.{◌≡◌, ℕ, ◌≤◌, List, length, subst}
use Rattle.std.specs.List.Sorted.{IsStrictlySortedBy}
use Rattle.cqa_value.specs.declared.value.Value.{Value}
use Rattle.cqa_model.specs.Database.{Table, block_cmp}
use Rattle.table_blocks.specs.Tables.{rows_at, key_at}
use Rattle.row_blocks.specs.Blocks.{blocks_of}
use Rattle.row_blocks.proofs.Parting.{blocks-are, blocks-few, side_by_side}
use Rattle.range_ask.specs.Picks.{IsInBlocks}

pub parted : (db : List Table) (table : ℕ) (rows : List (List Value)) → rows ≡ rows_at db table → IsStrictlySortedBy (block_cmp (key_at db table)) rows → IsInBlocks db table (blocks_of (key_at db table) (rows_at db table))
parted db table rows e s =
    let order = subst (IsStrictlySortedBy (block_cmp (key_at db table))) e s in
    record { in_order = order; blocks_are = blocks-are (key_at db table) (rows_at db table) (side_by_side (key_at db table) (rows_at db table) order) }

pub parted-few : (db : List Table) (table : ℕ) → length (blocks_of (key_at db table) (rows_at db table)) ≤ length (rows_at db table)
parted-few db table = blocks-few (key_at db table) (rows_at db table)
