-- Readers and writers of std, and their faults.
use Rattle.std.specs.Prelude.{ℕ}
use Rattle.cqa_io.specs.declared.standard.StdSource.{StdSource}
use Rattle.cqa_io.specs.declared.standard.StdSink.{StdSink}

abbrev pub reader_of : {R : Type 0} → StdSource R → R
reader_of source = source.reader

abbrev pub writer_of : {W : Type 0} → StdSink W → W
writer_of sink = sink.writer

-- how many reads gave an error
abbrev pub errors_read : {R : Type 0} → StdSource R → ℕ
errors_read source = source.faults

-- how many writes gave an error or took nothing
abbrev pub errors_written : {W : Type 0} → StdSink W → ℕ
errors_written sink = sink.faults
