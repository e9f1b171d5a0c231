use Rattle.std.proofs.Common.{◌≡◌, ◌+◌, ◌<◌, true, false}
use Rattle.std.specs.List.{AllWithin}
use Rattle.row_order.specs.Spans.{probe_cmp, comes_before}
use Rattle.table_blocks.proofs.span.start_near.Given as goal

-- all rows before those that are still to be tried come before those that are looked for, once one was tried
abbrev pub invariant-loop-at : goal.invariant-loop-at
invariant-loop-at l = 0 < l.at → AllWithin (λ row. comes_before false (probe_cmp l.key l.probe row) ≡ true) l.rows 0 (l.finger + l.at)
