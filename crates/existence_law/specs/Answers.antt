-- Each query that fits a database has its answers.
use Rattle.std.specs.Prelude.{◌⊎◌, List}
use Rattle.cqa_value.specs.declared.value.Value.{Value}
use Rattle.cqa_model.specs.declared.query.Query.{Query}
use Rattle.cqa_model.specs.Database.{Table}
use Rattle.cqa_model.specs.Query.{FitsDatabase}
use Rattle.cqa_model.specs.Certain.{IsCertain, IsCandidate, IsCertainAnswer, IsPossibleAnswer}

-- The certain rows of a query are a list, and so are the possible ones.
pub record AnswersExist : Type 0 where
  pub certain : (db : List Table) (q : Query) → FitsDatabase q db → (rows : List (List Value)) × IsCertainAnswer db q rows
  pub possible : (db : List Table) (q : Query) → FitsDatabase q db → (rows : List (List Value)) × IsPossibleAnswer db q rows

-- Whether a row is certain is decided, and so is whether it has a witness.
pub record RowsAreDecided : Type 0 where
  pub certain : (db : List Table) (q : Query) (row : List Value) → IsCertain db q row ⊎ (IsCertain db q row → ⊥)
  pub candidate : (db : List Table) (q : Query) (row : List Value) → IsCandidate db q row ⊎ (IsCandidate db q row → ⊥)
