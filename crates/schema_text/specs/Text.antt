-- How a schema is written.
use Rattle.std.specs.Prelude.{ℕ, List, ◌++◌, codes}
use Rattle.std.specs.List.{flat_map, join_by}
use Rattle.cqa_value.specs.declared.value.Kind.{Kind}
use Rattle.cqa_value.specs.declared.value.Kind.TheVariants.{Int, Text}
use Rattle.cqa_model.specs.declared.schema.Column.{Column}
use Rattle.cqa_model.specs.declared.schema.Schema.{Schema}
use Rattle.cqa_model.specs.Shape.{column_at}

abbrev pub kind_word : Kind → List ℕ
kind_word Int = codes "int"
kind_word Text = codes "text"

-- NAME KIND
abbrev pub column_text : Column → List ℕ
column_text column = column.name ++ codes " " ++ kind_word column.kind

-- NAME (COLUMN KIND, COLUMN KIND,
abbrev pub columns_text : Schema → List ℕ
columns_text schema = schema.name ++ codes " (" ++ flat_map (λ column. column_text column ++ codes ", ") schema.columns

-- primary key (COLUMN, COLUMN)
abbrev pub key_text : Schema → List ℕ
key_text schema = codes "primary key (" ++ join_by (λ place. (column_at schema.columns place).name) (codes ", ") schema.key ++ codes ")"

-- NAME (COLUMN KIND, COLUMN KIND, primary key (COLUMN, COLUMN))
abbrev pub schema_bytes : Schema → List ℕ
schema_bytes schema = columns_text schema ++ key_text schema ++ codes ")"
