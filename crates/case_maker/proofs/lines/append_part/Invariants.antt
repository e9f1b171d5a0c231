use Rattle.std.proofs.Common.{◌≡◌, ◌++◌}
use Rattle.std.specs.List.{flat_map, range_with_len}
use Rattle.case_maker.specs.Scripts.{lines_of}
use Rattle.case_maker.proofs.lines.append_part.Given as goal

-- the lines of the numbers so far
abbrev pub invariant-loop-at : goal.invariant-loop-at
invariant-loop-at l = l.out.items ≡ l.fn.out.items ++ flat_map (lines_of l.part) (range_with_len l.first l.at)
