use Rattle.std.proofs.Common.{◌≡◌, ◌++◌, reverse, length}
use Rattle.row_pieces.specs.Joined.{joined}
use Rattle.row_pieces.proofs.add.cut_off.Given as goal

-- what is cut off stands behind what is left
abbrev pub invariant-loop-rows : goal.invariant-loop-rows
invariant-loop-rows l = l.rows.items ++ joined (reverse l.cut.items) ≡ l.initial.rows.items

abbrev pub decreases-loop-rows : goal.decreases-loop-rows
decreases-loop-rows l = length l.rows.items
