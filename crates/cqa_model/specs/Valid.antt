-- Which names, schemas and tables there can be in a state: what a dump writes can be read again.
use Rattle.std.specs.Prelude.{◌≡◌, ◌≢◌, ◌≤◌, ℕ, Bool, true, false, nat_le, ◌&&◌, ◌||◌, ◌==◌, List, [], ◌∷◌, length, Contains, codes}
use Rattle.std.specs.List.{list_all}
use Rattle.cqa_value.specs.declared.value.Value.{Value}
use Rattle.cqa_value.specs.Valid.{IsValidRow}
use Rattle.cqa_model.specs.declared.limits.TheConstants.{LONGEST_NAME}
use Rattle.cqa_model.specs.declared.schema.Column.{Column}
use Rattle.cqa_model.specs.declared.schema.Schema.{Schema}
use Rattle.cqa_model.specs.Database.{Table}

-- A to Z, a to z, or _
abbrev pub is_letter : ℕ → Bool
is_letter byte = (nat_le 65 byte && nat_le byte 90) || (nat_le 97 byte && nat_le byte 122) || byte == 95

-- a letter, or 0 to 9
abbrev pub is_letter_or_digit : ℕ → Bool
is_letter_or_digit byte = is_letter byte || (nat_le 48 byte && nat_le byte 57)

-- a letter, then letters and digits
abbrev pub is_word : List ℕ → Bool
is_word [] = false
is_word (byte ∷ bytes) = is_letter byte && list_all is_letter_or_digit bytes

-- a name of the grammar: any word but `primary` that is short enough
pub record IsName (bytes : List ℕ) : Type 0 where
  pub word : is_word bytes ≡ true
  pub free : bytes ≢ codes "primary"
  pub short : length bytes ≤ LONGEST_NAME

-- a schema has names, and so have its columns
pub record HasNames (schema : Schema) : Type 0 where
  pub name : IsName schema.name
  pub columns : (column : Column) → Contains schema.columns column → IsName column.name

-- a table has names, and its values are of 64 bits or short texts of UTF-8
pub record IsValidTable (table : Table) : Type 0 where
  pub names : HasNames table.schema
  pub values : (row : List Value) → Contains table.rows row → IsValidRow row

-- each table of a database is valid
abbrev pub AreValid : List Table → Type 0
AreValid db = (table : Table) → Contains db table → IsValidTable table
