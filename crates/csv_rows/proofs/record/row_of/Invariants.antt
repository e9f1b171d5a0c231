use Rattle.std.proofs.Common.{◌≡◌, ◌≤◌, take, length}
use Rattle.csv.specs.Records.{fields_of}
use Rattle.csv_rows.specs.Blocks.{IsRecordOf, kinds}
use Rattle.csv_rows.proofs.record.row_of.Given as goal

-- the values so far are those of the first fields
abbrev pub invariant-loop-at : goal.invariant-loop-at
invariant-loop-at l = record {
  is : IsRecordOf (take l.at (kinds l.columns)) (take l.at (fields_of l.fields)) l.row;
  count : length l.row ≡ l.at;
  within : l.at ≤ length l.columns;
}
