use Rattle.std.proofs.Common.{◌≡◌, ◌≤◌, ◌-◌, Bool, true, List, length}
use denote.Param.Always.{always_mut}
use Rattle.std.specs.List.{AllWithin}
use Rattle.std.specs.Fn.{ComputesKey}
use Rattle.std.specs.List.Sorted.{IsPartitionedBy}
use Rattle.cqa_value.specs.declared.value.Value.{Value as Cell}
use Rattle.table_blocks.proofs.search.leading.Given as goal

-- the test answers as before, and the rows so far pass it
abbrev pub invariant-loop-passed : goal.invariant-loop-passed
invariant-loop-passed g l = record {
  within : l.passed ≤ length l.rows;
  callable : always_mut g.P.FnMut l.passes;
  passing : (p : List Cell → Bool) → ComputesKey g.P.FnMut p l.initial.passes → ComputesKey g.P.FnMut p l.passes × (IsPartitionedBy p l.rows → AllWithin (λ row. p row ≡ true) l.rows 0 l.passed);
}

abbrev pub decreases-loop-passed : goal.decreases-loop-passed
decreases-loop-passed g l = length l.rows - l.passed
