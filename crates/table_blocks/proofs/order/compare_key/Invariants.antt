use Rattle.std.proofs.Common.{◌≡◌, drop, take, length}
use Rattle.cqa_value.specs.Values.{row_cmp}
use Rattle.cqa_model.specs.Database.{key_of}
use Rattle.row_order.specs.Spans.{probe_cmp}
use Rattle.table_blocks.proofs.order.compare_key.Given as goal

-- what is left of the key decides
abbrev pub invariant-loop-at : goal.invariant-loop-at
invariant-loop-at l = probe_cmp l.key l.probe l.row ≡ row_cmp (key_of (drop l.at (take (length l.probe) l.key)) l.row) (drop l.at l.probe)
