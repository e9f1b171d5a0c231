-- A row for whose formula the solver used up its budget.
use Rattle.std.proofs.Common.{List, ℕ}
use Rattle.cqa_value.specs.declared.value.Value.{Value}
use Rattle.cqa_model.specs.declared.query.Query.{Query}
use Rattle.cqa_model.specs.declared.query.RowId.{RowId}
use Rattle.cqa_model.specs.Database.{Table}
use Rattle.cnf_form.specs.declared.formula.Cnf.{Cnf}
use Rattle.cnf_form.specs.declared.log.Log.{Log}
use Rattle.cdcl.specs.declared.outcome.Outcome.TheVariants.{Spent}
use Rattle.union_ask.specs.QueryDeciding.{IsDecided}
use Rattle.union_ask.specs.QuerySearching.{IsSpentFor}

-- a row is a candidate where the solver used up its budget for the row's formula
pub spent_for : (q : Query) (db : List Table) (budget : ℕ) (row : List Value) (cnf : Cnf) (rows : List RowId) (log : Log) → IsDecided q db row budget (record { formula = record { cnf = cnf; rows = rows }; outcome = Spent log }) →
    IsSpentFor q db budget row cnf log
spent_for q db budget row cnf rows log decided = record { candidate = decided.says; rows = rows; formula = decided.formula; spent = decided.outcome }
