use Rattle.std.proofs.Common.{take}
use Rattle.group_stream.specs.Cuts.{IsLine}
use Rattle.group_stream.proofs.gathering.cut_line.Given as goal

-- no LF yet
abbrev pub invariant-loop-at : goal.invariant-loop-at
invariant-loop-at l = IsLine (take l.at l.text)
