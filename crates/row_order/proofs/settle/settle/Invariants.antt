use Rattle.std.specs.List.Sorted.{IsPermutation}
use Rattle.row_order.proofs.settle.settle.Given as goal

-- the same rows
abbrev pub invariant-loop-start : goal.invariant-loop-start
invariant-loop-start l = IsPermutation l.fn.rows l.rows
