-- The names of tables and of their columns.
use Rattle.std.specs.Prelude.{ℕ, List, [], map, slice_index_or}
use Rattle.cqa_model.specs.declared.schema.Column.{Column}
use Rattle.cqa_model.specs.declared.query.Atom.{Atom}
use Rattle.cqa_model.specs.declared.query.Query.{Query}
use Rattle.cqa_model.specs.Database.{Table, names_of}
use Rattle.query_resolve.specs.Names.{columns_at}
use Rattle.sql_text.specs.declared.names.Names.{Names}

-- the name of the table at a place
abbrev pub table_name_at : List Table → ℕ → List ℕ
table_name_at db table = slice_index_or (names_of db) table []

-- the names of a table's columns
abbrev pub column_names : List Table → ℕ → List (List ℕ)
column_names db table = map (λ (column : Column). column.name) (columns_at db table)

-- the names of a query's tables, and those of their columns
abbrev pub query_names : List Table → List (List ℕ) → Query → Names
query_names db tables q = record { tables = tables; columns = map (λ (atom : Atom). column_names db atom.table) q.atoms }
