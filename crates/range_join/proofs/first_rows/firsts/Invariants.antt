use Rattle.std.proofs.Common.{◌<◌, ℕ, Bool, length}
use Rattle.std.specs.List.{AllZip}
use Rattle.table_blocks.specs.Tables.{rows_at}
use Rattle.range_ask.specs.Walking.{IsReading}
use Rattle.range_join.specs.Firsts.{blocks_at, spans_from, ComputesBelow, IsFirst, IsStrictOrder}
use Rattle.range_join.proofs.Firsting.{IsFirstOf}
use Rattle.range_join.proofs.first_rows.firsts.Given as goal

abbrev pub invariant-loop-row : goal.invariant-loop-row
invariant-loop-row g l =
    IsReading (λ front. (before : ℕ → ℕ → Bool) → IsStrictOrder before → ComputesBelow (goal.P-post g l.goes_before) (length (rows_at l.db l.table)) before → AllZip (IsFirst before) (spans_from 0 front) l.places.items)
    (λ block n. (l.held.first < n) × ((before : ℕ → ℕ → Bool) → IsStrictOrder before → ComputesBelow (goal.P-post g l.goes_before) (length (rows_at l.db l.table)) before → IsFirstOf before l.held.start n l.held.first))
    (blocks_at l.db l.table) l.left l.last l.held.start l.held.read

abbrev pub decreases-loop-row : goal.decreases-loop-row
decreases-loop-row g l = length l.left
