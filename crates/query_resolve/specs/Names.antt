-- What names stand for: columns of a table, and tables of a query.
use Rattle.std.specs.Prelude.{◌≡◌, ℕ, ◌+◌, Bool, true, List, [], ◌∷◌, map, drop, Option, Some, position, nat_eq, slice_index_or, unwrap_or, option_map, is_some}
use Rattle.std.specs.List.{filter}
use Rattle.std.specs.Cmp.Lexicographic.{pointwise}
use Rattle.cqa_value.specs.declared.value.Kind.{Kind}
use Rattle.cqa_model.specs.declared.schema.Column.{Column}
use Rattle.cqa_model.specs.declared.query.Atom.{Atom}
use Rattle.cqa_model.specs.declared.query.ColRef.{ColRef}
use Rattle.cqa_model.specs.Database.{Table}
use Rattle.cqa_model.specs.Shape.{column_at}
use Rattle.table_blocks.specs.Tables.{table_named, mark_at}

-- the first place of a name in a list
abbrev pub name_place : List (List ℕ) → List ℕ → Option ℕ
name_place names name = position (pointwise nat_eq name) names

-- the first place of a column with a name
abbrev pub column_named : List Column → List ℕ → Option ℕ
column_named columns name = position (λ (column : Column). pointwise nat_eq name column.name) columns

-- the places of the columns with these names
abbrev pub column_places : List Column → List (List ℕ) → List ℕ
column_places columns names = map (λ name. unwrap_or (column_named columns name) 0) names

abbrev pub has_column : List Column → List ℕ → Bool
has_column columns name = is_some (column_named columns name)

-- the kind of the column with a name
abbrev pub kind_named : List Column → List ℕ → Kind
kind_named columns name = (column_at columns (unwrap_or (column_named columns name) 0)).kind

-- the columns of the table at a place
abbrev pub columns_at : List Table → ℕ → List Column
columns_at db table = slice_index_or (map (λ (t : Table). t.schema.columns) db) table []

-- the columns of the table with a name; a table that isn't there has none
abbrev pub columns_named : List Table → List ℕ → List Column
columns_named db name = unwrap_or (option_map (columns_at db) (table_named db name)) []

-- whether the table with a name is strict; where none is there, nothing breaks its key
abbrev pub strict_named : List Table → List ℕ → Bool
strict_named db name = unwrap_or (option_map (mark_at db) (table_named db name)) true

-- the columns of each table that a query names
abbrev pub scope : List Table → List (List ℕ) → List (List Column)
scope db names = map (columns_named db) names

-- those of the atom at a place
abbrev pub atom_columns : List Table → List (List ℕ) → ℕ → List Column
atom_columns db names atom = slice_index_or (scope db names) atom []

-- of some tables, by their columns, those that have a column of the name
abbrev pub having : List ℕ → List (List Column) → List (List Column)
having name tables = filter (λ columns. has_column columns name) tables

-- of the tables that a query names, those that have a column of the name
abbrev pub owners : List Table → List (List ℕ) → List ℕ → List (List Column)
owners db names name = having name (scope db names)

-- the columns of each atom's table
abbrev pub atom_scope : List Table → List Atom → List (List Column)
atom_scope db atoms = map (λ (atom : Atom). columns_at db atom.table) atoms

-- the first column of the name in the tables from a place on
pub record IsNextOwner (tables : List (List Column)) (name : List ℕ) (start : ℕ) (col : ColRef) : Type 0 where
  pub place : column_named (slice_index_or tables col.atom []) name ≡ Some col.col
  pub first : having name (drop start tables) ≡ slice_index_or tables col.atom [] ∷ having name (drop (col.atom + 1) tables)
