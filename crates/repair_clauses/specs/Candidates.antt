-- The rows that are decided one after the other.
use Rattle.std.specs.Prelude.{◌↔◌, List, Contains}
use Rattle.std.specs.List.Sorted.{IsStrictlySortedBy}
use Rattle.cqa_value.specs.declared.value.Value.{Value}
use Rattle.cqa_value.specs.Values.{row_cmp}
use Rattle.cqa_model.specs.declared.query.Query.{Query}
use Rattle.cqa_model.specs.Database.{Table}
use Rattle.cqa_model.specs.Certain.{IsCandidate}

-- exactly the candidates, ascending
pub record AreCandidates (q : Query) (db : List Table) (rows : List (List Value)) : Type 0 where
  pub ascending : IsStrictlySortedBy row_cmp rows
  pub exactly : (row : List Value) → Contains rows row ↔ IsCandidate db q row
