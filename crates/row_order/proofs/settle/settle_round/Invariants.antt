use Rattle.std.specs.List.Sorted.{IsPermutation}
use Rattle.row_order.proofs.settle.settle_round.Given as goal

-- the same rows
abbrev pub invariant-loop : goal.invariant-loop
invariant-loop l = IsPermutation l.fn.rows l.rows
