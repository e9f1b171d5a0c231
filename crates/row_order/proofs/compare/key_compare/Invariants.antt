use Rattle.std.proofs.Common.{◌≡◌, drop}
use Rattle.cqa_value.specs.Values.{row_cmp, key_of}
use Rattle.row_order.proofs.compare.key_compare.Given as goal

-- what is left of the key decides
abbrev pub invariant-loop-place : goal.invariant-loop-place
invariant-loop-place l = row_cmp (key_of l.key l.a) (key_of l.key l.b) ≡ row_cmp (key_of (drop l.place-index l.key) l.a) (key_of (drop l.place-index l.key) l.b)
