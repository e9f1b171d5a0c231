-- The script that makes tables with their rows.
use Rattle.std.specs.Prelude.{ℕ, Bool, true, false, List, [], ◌∷◌, ◌++◌, codes}
use Rattle.std.specs.List.{flat_map}
use Rattle.cqa_value.specs.declared.value.Value.{Value}
use Rattle.cqa_value.specs.Literals.{row_bytes}
use Rattle.cqa_model.specs.declared.schema.Schema.{Schema}
use Rattle.cqa_model.specs.Database.{Table}
use Rattle.schema_text.specs.Text.{schema_bytes}
use Rattle.csv_rows.specs.Ends.{plain_rows, other_rows}
use Rattle.csv_rows.specs.Texts.{rows_bytes}

-- what stands before the schema of a table that is made, strict or not
abbrev pub create_words : Bool → List ℕ
create_words true = codes "create strict table "
create_words false = codes "create table "

-- create table SCHEMA;
abbrev pub create_text : Schema → List ℕ
create_text schema = create_words schema.strict ++ schema_bytes schema ++ codes ";\n"

-- copy NAME; with a block of these rows, where there are any
abbrev pub copy_text : List ℕ → List (List Value) → List ℕ
copy_text name [] = []
copy_text name (row ∷ rows) = codes "copy " ++ name ++ codes ";\n" ++ rows_bytes (row ∷ rows) ++ codes "\\.\n"

-- insert into NAME values ROW;
abbrev pub insert_text : List ℕ → List Value → List ℕ
insert_text name row = codes "insert into " ++ name ++ codes " values " ++ row_bytes row ++ codes ";\n"

-- a table: it is made, the rows that can stand in a block are copied, and each other row is inserted
abbrev pub dump_of_table : Schema → List (List Value) → List ℕ
dump_of_table schema rows = create_text schema ++ copy_text schema.name (plain_rows rows) ++ flat_map (λ row. insert_text schema.name row) (other_rows rows)

-- the tables of a database, in order
abbrev pub dump_text : List Table → List ℕ
dump_text db = flat_map (λ table. dump_of_table table.schema table.rows) db
