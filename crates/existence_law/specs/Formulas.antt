-- Each row has its witnesses by name and its formula; where it is certain, the formula has a refutation.
use Rattle.std.specs.Prelude.{◌⊎◌, List, length}
use Rattle.cqa_value.specs.declared.value.Value.{Value}
use Rattle.cqa_model.specs.declared.query.Query.{Query}
use Rattle.cqa_model.specs.declared.query.RowId.{RowId}
use Rattle.cqa_model.specs.Database.{Table}
use Rattle.cqa_model.specs.Query.{FitsDatabase}
use Rattle.cqa_model.specs.Certain.{IsCertain}
use Rattle.cnf_form.specs.declared.log.Step.{Step}
use Rattle.cnf_form.specs.Logs.{Refutes, AreConsecutive}
use Rattle.join_access.specs.Listing.{AreAllNames, HasTooMany}
use Rattle.row_lists.specs.declared.formula.Encoded.{Encoded}
use Rattle.row_lists.specs.Clauses.{Formula}
use Rattle.repair_clauses.specs.Clauses.{IsFormula}
use Rattle.repair_clauses.specs.Encodings.{IsEncoded}

-- All witnesses of a row have names, which are a list, and whether they are too many is decided.
pub record WitnessesAreListed : Type 0 where
  pub names : (db : List Table) (q : Query) (row : List Value) → (all : List (List RowId)) × AreAllNames q db row all
  pub count : (db : List Table) (q : Query) (row : List Value) → HasTooMany q db row ⊎ (HasTooMany q db row → ⊥)

-- A row has a formula, and clauses over numbers that are those of this formula.
pub record FormulasExist : Type 0 where
  pub formula : (db : List Table) (q : Query) (row : List Value) → (f : Formula) × IsFormula q db row f
  pub encoded : (db : List Table) (q : Query) (row : List Value) → (e : Encoded) × IsEncoded q db row e

-- The formula of a certain row has a refutation, by additions alone, under the ids that follow those of its clauses.
abbrev pub CertainIsRefuted : Type 0
CertainIsRefuted = (db : List Table) (q : Query) (row : List Value) → FitsDatabase q db → IsCertain db q row →
    (e : Encoded) × (steps : List Step) × (IsEncoded q db row e × Refutes e.cnf steps × AreConsecutive (length e.cnf.clauses) steps)
