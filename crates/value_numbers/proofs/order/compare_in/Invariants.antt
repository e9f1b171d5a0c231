use Rattle.std.proofs.Common.{◌≡◌, drop}
use Rattle.cqa_value.specs.Values.{row_cmp, key_of}
use Rattle.value_numbers.proofs.order.compare_in.Given as goal

-- what is left of the columns decides
abbrev pub invariant-loop-at : goal.invariant-loop-at
invariant-loop-at l = row_cmp (key_of l.left l.a) (key_of l.right l.b) ≡ row_cmp (key_of (drop l.at l.left) l.a) (key_of (drop l.at l.right) l.b)
