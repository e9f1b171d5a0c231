-- The laws of the lists of witnesses of parts.
use Rattle.std.specs.Prelude.{◌↔◌, ℕ, List, Contains}
use Rattle.cqa_value.specs.declared.value.Value.{Value}
use Rattle.cqa_model.specs.declared.query.Query.{Query}
use Rattle.cqa_model.specs.declared.query.RowId.{RowId}
use Rattle.cqa_model.specs.Database.{Table}
use Rattle.cqa_model.specs.Unions.{IsCertainIn}
use Rattle.row_lists.specs.Lists.{IsForced}
use Rattle.row_lists.specs.Classes.{AreClosed}
use Rattle.part_search.specs.Parts.{AreNamesIn, AllFit, IsOfSome, HaveSpoken}

-- What stands in the lists of parts is exactly the names of their witnesses.
abbrev pub NamesOfParts : Type 0
NamesOfParts = (db : List Table) (parts : List Query) (row : List Value) (all : List (List RowId)) → AreNamesIn parts db row all → (names : List RowId) → Contains all names ↔ IsOfSome parts db row names

-- A row is certain for a union exactly where every repair keeps one of its witnesses' lists whole.
abbrev pub CertainIsForced : Type 0
CertainIsForced = (db : List Table) (parts : List Query) (row : List Value) (all : List (List RowId)) → AllFit parts db → AreNamesIn parts db row all → IsCertainIn db parts row ↔ IsForced db all

-- The lists of a union are closed under exchange for rows that agree in the columns that are spoken of.
abbrev pub ClosedByParts : Type 0
ClosedByParts =
    (db : List Table) (parts : List Query) (row : List Value) (all : List (List RowId)) (columns : ℕ → List ℕ) → AllFit parts db → HaveSpoken parts columns → AreNamesIn parts db row all → AreClosed db columns all
