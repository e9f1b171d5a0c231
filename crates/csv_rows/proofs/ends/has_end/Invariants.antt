use Rattle.std.proofs.Common.{◌≡◌, drop}
use Rattle.csv_rows.specs.Ends.{has_end}
use Rattle.csv_rows.proofs.ends.has_end.Given as goal

-- no line ends a block that begins before this place
abbrev pub invariant-loop-at : goal.invariant-loop-at
invariant-loop-at l = has_end l.text ≡ has_end (drop l.at l.text)
