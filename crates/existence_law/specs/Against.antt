-- Where a row isn't certain, few rows tell so.
use Rattle.std.specs.Prelude.{List}
use Rattle.cqa_value.specs.declared.value.Value.{Value}
use Rattle.cqa_model.specs.declared.query.Query.{Query}
use Rattle.cqa_model.specs.declared.query.RowId.{RowId}
use Rattle.cqa_model.specs.Database.{Table, IsDatabase}
use Rattle.cqa_model.specs.Query.{FitsDatabase}
use Rattle.cqa_model.specs.Certain.{IsCertain}
use Rattle.rows_against.specs.Against.{IsAgainst}

-- The law: a row that isn't certain has rows that are kept against it, of which none can be left out.
abbrev pub RowsAgainstExist : Type 0
RowsAgainstExist = (db : List Table) (q : Query) (row : List Value) → IsDatabase db → FitsDatabase q db → (IsCertain db q row → ⊥) → (names : List RowId) × IsAgainst db q row names
