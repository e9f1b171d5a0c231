-- How rows are written as CSV.
use Rattle.std.specs.Prelude.{◌≡◌, ℕ, true, false, Vec, List, [], ◌∷◌, ◌++◌, ◌==◌, if◌then◌else◌, map}
use Rattle.std.specs.Fmt.{signed_decimal}
use Rattle.std.specs.List.{flat_map, join_by}
use Rattle.csv.specs.Writing.{default_writer, fields_written, has_written, with_flexible, with_style, writer_pending, writer_under}
use Rattle.csv.specs.declared.writer.QuoteStyle.TheVariants.{Always}
use Rattle.csv.specs.declared.writer.Writer.{Writer}
use Rattle.csv.specs.declared.writer.WriterBuilder.{WriterBuilder}
use Rattle.cqa_value.specs.declared.value.Value.{Value}
use Rattle.cqa_value.specs.declared.value.Value.TheVariants.{Int, Text}

-- an integer in decimal, a text as its bytes
abbrev pub value_bytes : Value → List ℕ
value_bytes (Int number) = signed_decimal number
value_bytes (Text bytes) = bytes

-- the bytes of a field with each quote (34) quotes_doubled
abbrev pub quotes_doubled : List ℕ → List ℕ
quotes_doubled bytes = flat_map (λ byte. if byte == 34 then 34 ∷ 34 ∷ [] else byte ∷ []) bytes

-- a field between quotes
abbrev pub field_bytes : List ℕ → List ℕ
field_bytes field = 34 ∷ (quotes_doubled field ++ 34 ∷ [])

-- a record: its fields with a comma (44) between two, and a line feed (10); one without fields is written as one empty field
abbrev pub record_bytes : List (List ℕ) → List ℕ
record_bytes [] = field_bytes [] ++ 10 ∷ []
record_bytes (field ∷ fields) = join_by field_bytes (44 ∷ []) (field ∷ fields) ++ 10 ∷ []

-- a record for each row
abbrev pub rows_bytes : List (List Value) → List ℕ
rows_bytes rows = flat_map (λ row. record_bytes (map value_bytes row)) rows

-- how the records are written: each field between quotes
abbrev pub quoting : WriterBuilder
quoting = with_flexible (with_style default_writer Always) true

-- a writer that stands between two records
abbrev pub IsBetweenRecords : {W : Type 0} → Writer W → Type 0
IsBetweenRecords writer = (fields_written writer ≡ 0) × (has_written writer ≡ false)

-- the bytes that a writer into memory has written
abbrev pub written : {A : Type 0} → Writer (Vec ℕ A) → List ℕ
written writer = (writer_under writer).items ++ writer_pending writer
