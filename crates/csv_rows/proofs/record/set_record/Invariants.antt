use Rattle.std.proofs.Common.{◌≡◌, [], map, take}
use Rattle.csv.specs.Records.{fields_of, partial_of}
use Rattle.cqa_value.specs.Valid.{IsValidRow}
use Rattle.csv_rows.specs.Texts.{value_bytes}
use Rattle.csv_rows.proofs.record.set_record.Given as goal

-- the fields so far are the first values
abbrev pub invariant-loop-value : goal.invariant-loop-value
invariant-loop-value l = (fields_of l.fields ≡ map value_bytes (take l.value-index l.row)) × (partial_of l.fields ≡ []) × IsValidRow (take l.value-index l.row)
