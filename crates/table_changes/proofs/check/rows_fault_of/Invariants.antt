use Rattle.std.proofs.Common.{◌≡◌, ◌+◌, ◌<◌, ℕ, List, drop, slice_index_or}
use Rattle.cqa_value.specs.declared.value.Value.{Value}
use Rattle.cqa_value.specs.Valid.{IsValidRow}
use Rattle.cqa_model.specs.Database.{kinds_of}
use Rattle.refusals.specs.Kinds.{rows_fault}
use Rattle.table_changes.proofs.check.rows_fault_of.Given as goal

-- the rows so far have no fault, and valid values
abbrev pub invariant-loop-at : goal.invariant-loop-at
invariant-loop-at l = record {
  none : rows_fault (kinds_of l.schema) 1 l.rows ≡ rows_fault (kinds_of l.schema) (l.at + 1) (drop l.at l.rows);
  valid : (k : ℕ) (d : List Value) → k < l.at → IsValidRow (slice_index_or l.rows k d);
}
