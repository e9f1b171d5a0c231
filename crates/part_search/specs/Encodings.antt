-- The formula of a row for the parts of a union over a frame, in the order of whose tables rows are numbered.
use Rattle.std.specs.Prelude.{ℕ, List}
use Rattle.cqa_value.specs.declared.value.Value.{Value}
use Rattle.cqa_model.specs.declared.query.Query.{Query}
use Rattle.cqa_model.specs.declared.query.RowId.{RowId}
use Rattle.cqa_model.specs.Database.{Table}
use Rattle.row_lists.specs.declared.formula.Encoded.{Encoded}
use Rattle.row_lists.specs.Encodings.{IsListEncoded}
use Rattle.part_search.specs.Parts.{AreNamesIn}

-- it is that of the lists of the parts' witnesses, part by part
pub record IsEncodedOver (db : List Table) (frame : List ℕ) (parts : List Query) (row : List Value) (e : Encoded) : Type 0 where
  pub lists : List (List RowId)
  pub are_lists : AreNamesIn parts db row lists
  pub encoded : IsListEncoded db frame lists e
