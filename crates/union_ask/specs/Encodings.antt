-- The formula of a row for a union (certain answers to unions by a formula as to one query; Dixit and Kolaitis, SAT 2019).
use Rattle.std.specs.Prelude.{ℕ, List}
use Rattle.cqa_value.specs.declared.value.Value.{Value}
use Rattle.cqa_model.specs.declared.query.Query.{Query}
use Rattle.cqa_model.specs.declared.query.RowId.{RowId}
use Rattle.cqa_model.specs.Database.{Table}
use Rattle.row_lists.specs.declared.formula.Encoded.{Encoded}
use Rattle.row_lists.specs.Encodings.{IsListEncoded}
use Rattle.part_search.specs.Parts.{AreNamesIn}
use Rattle.union_ask.specs.Candidates.{AreTablesIn}

-- It is that of the lists of the parts' witnesses, part by part; its rows are numbered by tables in the order of their creation
-- and then in block order. An encoding has its clauses, and the names of the numbered rows.
pub record IsEncodedIn (db : List Table) (parts : List Query) (row : List Value) (e : Encoded) : Type 0 where
  pub tables : List ℕ
  pub are_tables : AreTablesIn parts tables
  pub lists : List (List RowId)
  pub are_lists : AreNamesIn parts db row lists
  pub encoded : IsListEncoded db tables lists e
