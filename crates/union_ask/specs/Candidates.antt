-- The candidates of a union, and its tables.
use Rattle.std.specs.Prelude.{ℕ, ◌↔◌, List, Contains}
use Rattle.std.specs.List.Sorted.{IsStrictlySortedBy}
use Rattle.std.specs.Ordering.{nat_cmp}
use Rattle.cqa_value.specs.declared.value.Value.{Value}
use Rattle.cqa_value.specs.Values.{row_cmp}
use Rattle.cqa_model.specs.declared.query.Query.{Query}
use Rattle.cqa_model.specs.Database.{Table}
use Rattle.cqa_model.specs.Unions.{IsCandidateIn, IsPossibleIn}
use Rattle.part_search.specs.Parts.{IsTableIn}

-- exactly the candidates of some part, strictly ascending
pub record AreCandidatesIn (db : List Table) (parts : List Query) (rows : List (List Value)) : Type 0 where
  pub ascending : IsStrictlySortedBy row_cmp rows
  pub exactly : (row : List Value) → Contains rows row ↔ IsCandidateIn db parts row

-- the rows that are possible for the union, strictly ascending
pub record IsPossibleUnionAnswer (db : List Table) (parts : List Query) (answers : List (List Value)) : Type 0 where
  pub ascending : IsStrictlySortedBy row_cmp answers
  pub exactly : (row : List Value) → Contains answers row ↔ IsPossibleIn db parts row

-- exactly the tables of the parts, in the order of their creation
pub record AreTablesIn (parts : List Query) (tables : List ℕ) : Type 0 where
  pub in_order : IsStrictlySortedBy nat_cmp tables
  pub exactly : (t : ℕ) → Contains tables t ↔ IsTableIn parts t
