-- Queries of one atom, row by row.
use Rattle.std.specs.Prelude.{◌≡◌, ℕ, List, map, Contains, slice_index_or}
use Rattle.cqa_value.specs.declared.value.Value.{Value}
use Rattle.cqa_value.specs.Values.{kind_of}
use Rattle.cqa_model.specs.declared.schema.Schema.{Schema}
use Rattle.cqa_model.specs.declared.query.Cond.{Cond}
use Rattle.cqa_model.specs.declared.query.Cond.TheVariants.{Join, Test}
use Rattle.cqa_model.specs.declared.query.ColRef.{ColRef}
use Rattle.cqa_model.specs.declared.query.Query.{Query}
use Rattle.cqa_model.specs.Shape.{column_at}
use Rattle.cqa_model.specs.Database.{nothing}
use Rattle.cqa_model.specs.Repairs.{SharesKey}
use Rattle.cqa_model.specs.Query.{OpHolds}

-- a row's value in a column of its table
abbrev pub value_in : List Value → ColRef → Value
value_in x c = slice_index_or x c.col nothing

-- a condition on columns of the one table holds for a row
abbrev pub RowMeets : List Value → Cond → Type 0
RowMeets x (Join c d) = value_in x c ≡ value_in x d
RowMeets x (Test c op y) = OpHolds op (value_in x c) y

-- both sides of a condition on columns of the one table have one kind
abbrev pub RowKindsAgree : Schema → Cond → Type 0
RowKindsAgree schema (Join c d) = (column_at schema.columns c.col).kind ≡ (column_at schema.columns d.col).kind
RowKindsAgree schema (Test c op y) = (column_at schema.columns c.col).kind ≡ kind_of y

-- the answer that a row gives
abbrev pub answer_of : Query → List Value → List Value
answer_of q x = map (value_in x) q.answer

-- a row meets all conditions and gives the answer
pub record FitsRow (q : Query) (answer x : List Value) : Type 0 where
  pub meets : (k : Cond) → Contains q.conds k → RowMeets x k
  pub gives : answer_of q x ≡ answer

-- all rows of some block have the property
abbrev pub SomeBlockFits : List ℕ → List (List Value) → (List Value → Type 0) → Type 0
SomeBlockFits key rows P = (x : List Value) × Contains rows x × ((y : List Value) → Contains rows y → SharesKey key x y → P y)
