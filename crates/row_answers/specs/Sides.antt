-- The sides of the possible rows of a query: those that are certain, and those that are disputed.
use Rattle.std.specs.Prelude.{◌↔◌, List, Contains}
use Rattle.std.specs.List.Sorted.{IsStrictlySortedBy}
use Rattle.cqa_value.specs.declared.value.Value.{Value}
use Rattle.cqa_value.specs.Values.{row_cmp}
use Rattle.cqa_model.specs.declared.query.Query.{Query}
use Rattle.cqa_model.specs.Database.{Table}
use Rattle.cqa_model.specs.Certain.{IsCertain, IsPossible, IsCertainAnswer}
use Rattle.row_answers.specs.declared.side.Side.{Side}
use Rattle.row_answers.specs.declared.side.Side.TheVariants.{Certain, Disputed}

-- some repair holds a witness of the row, and not every repair does
abbrev pub IsDisputed : List Table → Query → List Value → Type 0
IsDisputed db q row = IsPossible db q row × (IsCertain db q row → ⊥)

-- the disputed rows, strictly ascending
pub record IsDisputedAnswer (db : List Table) (q : Query) (answers : List (List Value)) : Type 0 where
  pub ascending : IsStrictlySortedBy row_cmp answers
  pub exactly : (row : List Value) → Contains answers row ↔ IsDisputed db q row

-- the rows of a side, strictly ascending
abbrev pub IsAnswerOf : List Table → Query → Side → List (List Value) → Type 0
IsAnswerOf db q Certain answers = IsCertainAnswer db q answers
IsAnswerOf db q Disputed answers = IsDisputedAnswer db q answers

-- a possible row is of a side
abbrev pub IsOf : List Table → Query → Side → List Value → Type 0
IsOf db q Certain row = IsCertain db q row
IsOf db q Disputed row = IsCertain db q row → ⊥
