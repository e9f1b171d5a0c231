-- Unions of queries: a row is certain for one if every repair holds a witness of it for some part, which need not be the same part in each repair (certain answers to unions of conjunctive queries; Grahne and Mendelzon, ICDT 1999).
use Rattle.std.specs.Prelude.{◌≡◌, ◌<◌, ◌≤◌, ◌↔◌, List, length, Contains}
use Rattle.std.specs.List.Sorted.{IsStrictlySortedBy}
use Rattle.cqa_value.specs.declared.value.Value.{Value}
use Rattle.cqa_value.specs.Values.{row_cmp}
use Rattle.cqa_model.specs.declared.query.Query.{Query}
use Rattle.cqa_model.specs.declared.limits.TheConstants.{MOST_SELECTS}
use Rattle.cqa_model.specs.Database.{Table}
use Rattle.cqa_model.specs.Repairs.{IsRepair}
use Rattle.cqa_model.specs.Query.{IsWitness, FitsDatabase}
use Rattle.cqa_model.specs.Certain.{IsCandidate}

-- a set of rows holds a witness of the row for some part
abbrev pub HoldsSome : List Query → List (List (List Value)) → List Value → Type 0
HoldsSome parts kept row = (q : Query) × Contains parts q × ((w : List (List Value)) × IsWitness q kept row w)

-- every repair does
abbrev pub IsCertainIn : List Table → List Query → List Value → Type 0
IsCertainIn db parts row = (kept : List (List (List Value))) → IsRepair db kept → HoldsSome parts kept row

-- some repair does
abbrev pub IsPossibleIn : List Table → List Query → List Value → Type 0
IsPossibleIn db parts row = (kept : List (List (List Value))) × IsRepair db kept × HoldsSome parts kept row

-- the row is a candidate of some part
abbrev pub IsCandidateIn : List Table → List Query → List Value → Type 0
IsCandidateIn db parts row = (q : Query) × Contains parts q × IsCandidate db q row

-- the rows that are certain for the union, strictly ascending
pub record IsUnionAnswer (db : List Table) (parts : List Query) (answers : List (List Value)) : Type 0 where
  pub ascending : IsStrictlySortedBy row_cmp answers
  pub exactly : (row : List Value) → Contains answers row ↔ IsCertainIn db parts row

-- one to eight parts, each of which fits the database, with answers of one length
pub record AreParts (parts : List Query) (db : List Table) : Type 0 where
  pub some : 0 < length parts
  pub few : length parts ≤ MOST_SELECTS
  pub fits : (q : Query) → Contains parts q → FitsDatabase q db
  pub long : (p q : Query) → Contains parts p → Contains parts q → length p.answer ≡ length q.answer
