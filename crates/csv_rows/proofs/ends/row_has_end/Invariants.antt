use Rattle.std.proofs.Common.{◌≡◌, drop}
use Rattle.csv_rows.specs.Ends.{row_has_end}
use Rattle.csv_rows.proofs.ends.row_has_end.Given as goal

-- no value so far has such a line
abbrev pub invariant-loop-value : goal.invariant-loop-value
invariant-loop-value l = row_has_end l.row ≡ row_has_end (drop l.value-index l.row)
