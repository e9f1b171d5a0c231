-- Each row has its formula for a union.
use Rattle.std.specs.Prelude.{List}
use Rattle.cqa_value.specs.declared.value.Value.{Value}
use Rattle.cqa_model.specs.declared.query.Query.{Query}
use Rattle.cqa_model.specs.Database.{Table}
use Rattle.cnf_form.specs.Literals.{AreVarsInRange}
use Rattle.row_lists.specs.declared.formula.Encoded.{Encoded}
use Rattle.union_ask.specs.Encodings.{IsEncodedIn}

-- A row has a formula, whose literals are of its own variables.
abbrev pub UnionFormulasExist : Type 0
UnionFormulasExist = (db : List Table) (parts : List Query) (row : List Value) → (e : Encoded) × (IsEncodedIn db parts row e × AreVarsInRange e.cnf)
