use Rattle.std.proofs.Common.{◌≡◌, ◌++◌}
use Rattle.csv.specs.Writing.{writer_setup}
use Rattle.csv_rows.specs.Ends.{plain_rows}
use Rattle.csv_rows.specs.Texts.{IsBetweenRecords, quoting, rows_bytes, written}
use Rattle.csv_rows.proofs.writing.write_plain.Given as goal

-- the records so far and those of the rows that are left are all records of rows that can stand in a block
abbrev pub invariant-loop-row : goal.invariant-loop-row
invariant-loop-row l = record {
  setup : writer_setup l.writer ≡ quoting;
  between : IsBetweenRecords l.writer;
  text : written l.writer ++ rows_bytes (plain_rows l.row-iterator) ≡ written l.fn.writer ++ rows_bytes (plain_rows l.rows);
}
