-- The formula of a certain row with a refutation of it.
use Rattle.std.specs.Prelude.{List, length}
use Rattle.cqa_value.specs.declared.value.Value.{Value}
use Rattle.cqa_model.specs.declared.query.Query.{Query}
use Rattle.cqa_model.specs.Database.{Table}
use Rattle.cnf_form.specs.Logs.{Refutes, AreConsecutive}
use Rattle.repair_clauses.specs.Encodings.{IsEncoded}
use Rattle.pair_formula.specs.declared.proving.Refuted.{Refuted}

-- the formula is the row's, and the log refutes it by additions under the ids that follow its clauses
pub record IsRefutedInOrder (db : List Table) (q : Query) (row : List Value) (r : Refuted) : Type 0 where
  pub formula : IsEncoded q db row r.formula
  pub refutes : Refutes r.formula.cnf r.log.steps
  pub ids : AreConsecutive (length r.formula.cnf.clauses) r.log.steps
