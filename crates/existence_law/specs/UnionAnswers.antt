-- Each union whose parts fit a database has its answers.
use Rattle.std.specs.Prelude.{◌⊎◌, List}
use Rattle.cqa_value.specs.declared.value.Value.{Value}
use Rattle.cqa_model.specs.declared.query.Query.{Query}
use Rattle.cqa_model.specs.Database.{Table}
use Rattle.cqa_model.specs.Unions.{IsCertainIn, IsUnionAnswer}
use Rattle.part_search.specs.Parts.{AllFit, HasTooManyIn}
use Rattle.union_ask.specs.Candidates.{IsPossibleUnionAnswer}
use Rattle.union_ask.specs.Searching.{IsFirstOverIn, IsWithinIn}

-- Whether a row is certain for a union is decided, and so is whether it has too many witnesses.
pub record UnionRowsAreDecided : Type 0 where
  pub certain : (db : List Table) (parts : List Query) (row : List Value) → IsCertainIn db parts row ⊎ (IsCertainIn db parts row → ⊥)
  pub count : (db : List Table) (parts : List Query) (row : List Value) → HasTooManyIn parts db row ⊎ (HasTooManyIn parts db row → ⊥)

-- The certain rows of a union are a list, and so are the possible ones.
pub record UnionAnswersExist : Type 0 where
  pub certain : (db : List Table) (parts : List Query) → AllFit parts db → (rows : List (List Value)) × IsUnionAnswer db parts rows
  pub possible : (db : List Table) (parts : List Query) → AllFit parts db → (rows : List (List Value)) × IsPossibleUnionAnswer db parts rows

-- No candidate of a union has too many witnesses, or one that has is the first.
abbrev pub UnionFirstOverExists : Type 0
UnionFirstOverExists = (db : List Table) (parts : List Query) → AllFit parts db → IsWithinIn db parts ⊎ ((row : List Value) × IsFirstOverIn db parts row)
