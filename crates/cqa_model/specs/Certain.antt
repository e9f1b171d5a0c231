-- Certain and possible rows (Koutris and Wijsen, ACM TODS 2017).
use Rattle.std.specs.Prelude.{◌↔◌, List, Contains}
use Rattle.std.specs.List.Sorted.{IsStrictlySortedBy}
use Rattle.cqa_value.specs.declared.value.Value.{Value}
use Rattle.cqa_value.specs.Values.{row_cmp}
use Rattle.cqa_model.specs.declared.query.Query.{Query}
use Rattle.cqa_model.specs.Database.{Table, stored}
use Rattle.cqa_model.specs.Repairs.{IsRepair}
use Rattle.cqa_model.specs.Query.{IsWitness}

-- every repair holds some witness of the row
abbrev pub IsCertain : List Table → Query → List Value → Type 0
IsCertain db q row = (kept : List (List (List Value))) → IsRepair db kept → (w : List (List Value)) × IsWitness q kept row w

-- some repair holds a witness of the row
abbrev pub IsPossible : List Table → Query → List Value → Type 0
IsPossible db q row = (kept : List (List (List Value))) × IsRepair db kept × ((w : List (List Value)) × IsWitness q kept row w)

-- the row has a witness among the stored rows
abbrev pub IsCandidate : List Table → Query → List Value → Type 0
IsCandidate db q row = (w : List (List Value)) × IsWitness q (stored db) row w

-- the certain rows, strictly ascending
pub record IsCertainAnswer (db : List Table) (q : Query) (answers : List (List Value)) : Type 0 where
  pub ascending : IsStrictlySortedBy row_cmp answers
  pub exactly : (row : List Value) → Contains answers row ↔ IsCertain db q row

-- the possible rows, strictly ascending
pub record IsPossibleAnswer (db : List Table) (q : Query) (answers : List (List Value)) : Type 0 where
  pub ascending : IsStrictlySortedBy row_cmp answers
  pub exactly : (row : List Value) → Contains answers row ↔ IsPossible db q row
