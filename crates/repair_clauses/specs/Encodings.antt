-- What is made of the formula of a row: numbered clauses, and the row of each number.
use Rattle.std.specs.Prelude.{◌≡◌, List, length, map}
use Rattle.cqa_value.specs.declared.value.Value.{Value}
use Rattle.cqa_model.specs.declared.query.Query.{Query}
use Rattle.cqa_model.specs.Database.{Table}
use Rattle.cnf_form.specs.Literals.{literals}
use Rattle.row_lists.specs.declared.formula.Encoded.{Encoded}
use Rattle.row_lists.specs.Clauses.{Formula, clauses}
use Rattle.repair_clauses.specs.Clauses.{IsFormula, variable_name}

-- the clauses and the rows are those of the formula of a row
pub record IsEncoded (q : Query) (db : List Table) (row : List Value) (e : Encoded) : Type 0 where
  pub formula : Formula
  pub is : IsFormula q db row formula
  pub vars : e.cnf.vars ≡ length formula.variables
  pub are : literals e.cnf.clauses ≡ clauses formula
  pub rows : e.rows ≡ map (variable_name q) formula.variables
