use Rattle.std.proofs.Common.{◌-◌, ◌≡◌, ◌≤◌, Bool, List, length, true, false}
use denote.Param.Always.{always_mut}
use Rattle.std.specs.Fn.{ComputesKey}
use Rattle.std.specs.List.{AllWithin}
use Rattle.std.specs.List.Sorted.{IsPartitionedBy}
use Rattle.cqa_value.specs.declared.value.Value.{Value as Cell}
use Rattle.row_pieces.proofs.rows.Rows.halve.Given as goal

-- the test answers as before, holds below the one place and fails from the other on
abbrev pub invariant-loop-low : goal.invariant-loop-low
invariant-loop-low g l = record {
  begun : l.from ≤ l.low;
  order : l.low ≤ l.high;
  within : l.high ≤ l.to;
  callable : always_mut g.P.FnMut l.passes;
  halves : (p : List Cell → Bool) → ComputesKey g.P.FnMut p l.fn.passes → ComputesKey g.P.FnMut p l.passes × (IsPartitionedBy p l.self → AllWithin (λ row. p row ≡ true) l.self 0 l.from → AllWithin (λ row. p row ≡ false) l.self l.to (length l.self) → AllWithin (λ row. p row ≡ true) l.self 0 l.low × AllWithin (λ row. p row ≡ false) l.self l.high (length l.self));
}

abbrev pub decreases-loop-low : goal.decreases-loop-low
decreases-loop-low g l = l.high - l.low
