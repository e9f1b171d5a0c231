use Rattle.std.proofs.Common.{◌≡◌, ◌+◌, length}
use Rattle.std.specs.List.{count_by}
use Rattle.row_cursor.specs.Blocks.{blocks_left}
use Rattle.row_blocks.specs.Conflicts.{is_conflict}
use Rattle.row_cursor.proofs.blocks.block_counts.Given as goal

-- the blocks so far are counted, and the others are still to come
abbrev pub invariant-loop-block : goal.invariant-loop-block
invariant-loop-block l =
    (l.blocks + length (blocks_left l.cursor) ≡ length (blocks_left l.initial.cursor))
    × (l.conflicts + count_by is_conflict (blocks_left l.cursor) ≡ count_by is_conflict (blocks_left l.initial.cursor))

abbrev pub decreases-loop-block : goal.decreases-loop-block
decreases-loop-block l = length (blocks_left l.cursor)
