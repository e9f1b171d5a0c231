use Rattle.std.proofs.Common.{◌≡◌, ◌+◌, ◌++◌, ℕ, List, Some, length}
use Rattle.std.specs.List.{AllZip}
use Rattle.std.specs.List.Sorted.{IsStrictlySortedBy}
use Rattle.csv.specs.Reading.{Reached, Ready, default_config, reader_config, reader_source, reader_state, reader_trim, source_of, strip_bom}
use Rattle.csv.specs.declared.parser.State.TheVariants.{StartRecord}
use Rattle.csv.specs.declared.reader.Trim.TheVariants.{None as NoTrim}
use Rattle.cqa_model.specs.Database.{block_cmp}
use Rattle.csv_rows.specs.Blocks.{IsRecordOf, IsOneEmpty, kinds}
use Rattle.csv_rows.proofs.reading.read_into.Given as goal

-- the records so far are the rows so far
abbrev pub invariant-loop-number : goal.invariant-loop-number
invariant-loop-number l = (reader_trim l.reader ≡ NoTrim) × Ready l.reader × (reader_config l.reader ≡ default_config)
    × (records : List (List (List ℕ))) × (left : List ℕ) × (source_of (λ s. Some s.now) l.reader ≡ Some left)
    × Reached default_config StartRecord (strip_bom (reader_source l.fn.reader).now) records (reader_state l.reader) left
    × AllZip (IsRecordOf (kinds l.columns)) records (l.block.sorted ++ l.block.rest.items) × (length records + 1 ≡ l.number) × (length (l.block.sorted ++ l.block.rest.items) + 1 ≡ l.number)
    × IsStrictlySortedBy (block_cmp l.key) l.block.sorted × IsOneEmpty l.block.sorted l.block.rest.items
