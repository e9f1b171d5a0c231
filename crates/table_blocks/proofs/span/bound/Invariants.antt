use Rattle.std.proofs.Common.{◌≡◌, ◌+◌, ◌<◌, ◌≤◌, ◌^◌, ℕ, length, true, false}
use Rattle.std.specs.List.{AllWithin}
use Rattle.row_order.specs.Spans.{probe_cmp, comes_before}
use Rattle.table_blocks.proofs.span.bound.Given as goal

abbrev pub invariant-loop-size : goal.invariant-loop-size
invariant-loop-size g l = record {
  within : l.base + l.size ≤ length l.rows;
  front : AllWithin (λ row. comes_before l.with_ties (probe_cmp l.key l.probe row) ≡ true) l.rows 0 l.base;
  back : AllWithin (λ row. comes_before l.with_ties (probe_cmp l.key l.probe row) ≡ false) l.rows (l.base + l.size) (length l.rows);
  cost : (digits : ℕ) → length l.rows < 2 ^ digits → (left : ℕ) × (l.size < 2 ^ left) × (l.steps + left ≡ l.fn.steps + digits);
}

abbrev pub decreases-loop-size : goal.decreases-loop-size
decreases-loop-size g l = l.size
