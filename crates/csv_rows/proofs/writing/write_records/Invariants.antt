use Rattle.std.proofs.Common.{◌≡◌, take, All}
use Rattle.csv.specs.Writing.{writer_setup}
use Rattle.cqa_value.specs.Valid.{IsValidRow}
use Rattle.csv_rows.specs.Texts.{IsBetweenRecords, quoting, rows_bytes, written}
use Rattle.csv_rows.proofs.writing.write_records.Given as goal

-- the records so far are those of the first rows
abbrev pub invariant-loop-row : goal.invariant-loop-row
invariant-loop-row l = (writer_setup l.writer ≡ quoting) × IsBetweenRecords l.writer × (written l.writer ≡ rows_bytes (take l.row-index l.rows)) × All IsValidRow (take l.row-index l.rows)
