-- What rows a block of CSV holds (RFC 4180; Y. Shafranovich, 2005). A text's records are those of the crate `csv`.
use Rattle.std.specs.Prelude.{◌≡◌, ◌⊎◌, ◌+◌, ℕ, List, [], ◌∷◌, ◌++◌, Some, ⊤, length, map}
use Rattle.std.specs.List.{AllZip}
use Rattle.std.specs.Borrow.{Bor}
use Rattle.csv.specs.Reading.{AreRecords, Reached, Ready, default_config, reader_config, reader_source, reader_state, reader_trim, source_of, strip_bom}
use Rattle.csv.specs.declared.parser.State.{State}
use Rattle.csv.specs.declared.parser.State.TheVariants.{StartRecord}
use Rattle.csv.specs.declared.reader.Reader.{Reader}
use Rattle.csv.specs.declared.reader.Trim.TheVariants.{None as NoTrim}
use Rattle.cqa_value.specs.declared.memory.Fail.{Fail}
use Rattle.cqa_value.specs.declared.memory.Fail.TheVariants.{NoMemory, Refused}
use Rattle.cqa_value.specs.declared.value.Kind.{Kind}
use Rattle.cqa_value.specs.declared.value.Kind.TheVariants.{Int as IntKind, Text as TextKind}
use Rattle.cqa_value.specs.declared.value.Value.{Value}
use Rattle.cqa_value.specs.declared.value.Value.TheVariants.{Int, Text}
use Rattle.cqa_value.specs.Literals.{int_of}
use Rattle.cqa_value.specs.Valid.{IsValidText}
use Rattle.refusals.specs.declared.refusal.Refusal.{Refusal}
use Rattle.refusals.specs.declared.refusal.Refusal.TheVariants.{BadCsv}
use Rattle.cqa_model.specs.declared.schema.Column.{Column}

-- the value that a field gives a column of the kind: the integer that it writes, or itself as a short text of UTF-8
abbrev pub IsFieldOf : Kind → List ℕ → Value → Type 0
IsFieldOf kind field (Int number) = (kind ≡ IntKind) × (int_of field ≡ Some number)
IsFieldOf kind field (Text bytes) = (kind ≡ TextKind) × (bytes ≡ field) × IsValidText field

-- a field for each column, and the row of their values
abbrev pub IsRecordOf : List Kind → List (List ℕ) → List Value → Type 0
IsRecordOf [] [] [] = ⊤
IsRecordOf [] [] (value ∷ values) = ⊥
IsRecordOf [] (field ∷ fields) row = ⊥
IsRecordOf (kind ∷ kinds) [] row = ⊥
IsRecordOf (kind ∷ kinds) (field ∷ fields) [] = ⊥
IsRecordOf (kind ∷ kinds) (field ∷ fields) (value ∷ values) = IsFieldOf kind field value × IsRecordOf kinds fields values

-- the kinds of columns
abbrev pub kinds : List Column → List Kind
kinds columns = map (λ column. column.kind) columns

-- the records of a block are these rows
pub record HoldsRows (kinds : List Kind) (block : List ℕ) (rows : List (List Value)) : Type 0 where
  pub records : List (List (List ℕ))
  pub are_all : AreRecords default_config StartRecord (strip_bom block) records
  pub are_rows : AllZip (IsRecordOf kinds) records rows

-- one of two lists of rows has none
abbrev pub IsOneEmpty : List (List Value) → List (List Value) → Type 0
IsOneEmpty some others = (some ≡ []) ⊎ (others ≡ [])

-- the first record that is no row, by its number from 1: those before it are rows
pub record IsFirstBad (kinds : List Kind) (block : List ℕ) (number : ℕ) : Type 0 where
  pub before : List (List (List ℕ))
  pub rows : List (List Value)
  pub bad : List (List ℕ)
  pub state : State
  pub rest : List ℕ
  pub begins : Reached default_config StartRecord (strip_bom block) (before ++ bad ∷ []) state rest
  pub are_rows : AllZip (IsRecordOf kinds) before rows
  pub no_row : (row : List Value) → IsRecordOf kinds bad row → ⊥
  pub counted : number ≡ length before + 1

-- a block is refused with its first record that is no row; want of memory is free
abbrev pub IsRefusedRecord : List Kind → List ℕ → Fail Refusal → Type 0
IsRefusedRecord kinds block NoMemory = ⊤
IsRefusedRecord kinds block (Refused refusal) = (number : ℕ) × (refusal ≡ BadCsv number) × IsFirstBad kinds block number

-- a reader that has read nothing yet of its text
abbrev pub IsAtStart : Reader (Bor (List ℕ)) → Type 0
IsAtStart reader = (reader_trim reader ≡ NoTrim) × Ready reader × (reader_config reader ≡ default_config) × (reader_state reader ≡ StartRecord)
    × (source_of (λ s. Some s.now) reader ≡ Some (strip_bom (reader_source reader).now))

-- a block holds at most one list of rows, it has at most one first record that is no row, and not both
pub record ReadsInOneWay : Type 0 where
  pub rows : (kinds : List Kind) (block : List ℕ) (some others : List (List Value)) → HoldsRows kinds block some → HoldsRows kinds block others → some ≡ others
  pub bad : (kinds : List Kind) (block : List ℕ) (some other : ℕ) → IsFirstBad kinds block some → IsFirstBad kinds block other → some ≡ other
  pub apart : (kinds : List Kind) (block : List ℕ) (rows : List (List Value)) (number : ℕ) → HoldsRows kinds block rows → IsFirstBad kinds block number → ⊥
