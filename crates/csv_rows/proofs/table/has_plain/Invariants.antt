use Rattle.std.proofs.Common.{◌≡◌, not}
use Rattle.std.specs.List.{list_any}
use Rattle.csv_rows.specs.Ends.{row_has_end}
use Rattle.csv_rows.proofs.table.has_plain.Given as goal

-- no row so far can stand in a block
abbrev pub invariant-loop-row : goal.invariant-loop-row
invariant-loop-row l = list_any (λ row. not (row_has_end row)) l.rows ≡ list_any (λ row. not (row_has_end row)) l.row-iterator
