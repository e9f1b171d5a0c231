-- Which names a table that is created has.
use Rattle.std.specs.Prelude.{ℕ, List, All}
use Rattle.cqa_model.specs.declared.schema.Column.{Column}
use Rattle.cqa_model.specs.Valid.{IsName}

-- the table has a name, and so have its columns and each of its key
pub record AreNames (table : List ℕ) (columns : List Column) (key : List (List ℕ)) : Type 0 where
  pub of_table : IsName table
  pub of_columns : All (λ (column : Column). IsName column.name) columns
  pub of_key : All IsName key
