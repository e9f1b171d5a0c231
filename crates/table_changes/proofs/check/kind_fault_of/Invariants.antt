use Rattle.std.proofs.Common.{◌≡◌, ◌+◌, ◌<◌, ℕ, drop, slice_index_or}
use Rattle.cqa_value.specs.declared.value.Value.{Value}
use Rattle.cqa_value.specs.Valid.{IsValidValue}
use Rattle.cqa_model.specs.Database.{kinds_of}
use Rattle.refusals.specs.Kinds.{kind_fault}
use Rattle.table_changes.proofs.check.kind_fault_of.Given as goal

-- the columns so far have no fault, and valid values
abbrev pub invariant-loop-at : goal.invariant-loop-at
invariant-loop-at l = record {
  none : kind_fault l.number 1 (kinds_of l.schema) l.row ≡ kind_fault l.number (l.at + 1) (drop l.at (kinds_of l.schema)) (drop l.at l.row);
  valid : (k : ℕ) (d : Value) → k < l.at → IsValidValue (slice_index_or l.row k d);
}
