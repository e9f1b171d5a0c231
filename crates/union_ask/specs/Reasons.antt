-- Why a row is certain for a union, or why it isn't, or what keeps that from being told.
use Rattle.std.specs.Prelude.{ℕ, List}
use Rattle.cqa_value.specs.declared.memory.Fail.{Fail}
use Rattle.cqa_value.specs.declared.memory.Fail.TheVariants.{NoMemory, Refused}
use Rattle.cqa_value.specs.declared.value.Value.{Value}
use Rattle.cqa_model.specs.declared.query.Query.{Query}
use Rattle.cqa_model.specs.declared.query.RowId.{RowId}
use Rattle.cqa_model.specs.Database.{Table}
use Rattle.cqa_model.specs.Unions.{IsCertainIn, IsCandidateIn}
use Rattle.cnf_form.specs.declared.formula.Cnf.{Cnf}
use Rattle.cnf_form.specs.declared.log.Log.{Log}
use Rattle.cdcl.specs.declared.outcome.Outcome.{Outcome}
use Rattle.cdcl.specs.declared.outcome.Outcome.TheVariants as outcomes
use Rattle.cdcl.specs.Outcomes.{OutcomeIs}
use Rattle.list_search.specs.declared.decision.Decided.{Decided}
use Rattle.repair_back.specs.declared.reason.Reason.{Reason}
use Rattle.repair_back.specs.declared.reason.Reason.TheVariants.{ByBlock, Rejected, Refuted}
use Rattle.repair_back.specs.declared.reason.Untold.{Untold}
use Rattle.repair_back.specs.declared.reason.Untold.TheVariants.{Over, Spent}
use Rattle.table_blocks.specs.Tables.{AreStored}
use Rattle.part_search.specs.Parts.{HasTooManyIn}
use Rattle.union_ask.specs.Encodings.{IsEncodedIn}
use Rattle.union_ask.specs.Repairs.{AreRejectingRowsIn}
use Rattle.union_ask.specs.Searching.{IsSpentIn}

-- with a model the row isn't certain, with a refutation it is, and a spent log needs a witness
abbrev pub SaysIn : List Table → List Query → List Value → Outcome → Type 0
SaysIn db parts row (outcomes.Sat values) = IsCertainIn db parts row → ⊥
SaysIn db parts row (outcomes.Unsat log) = IsCertainIn db parts row
SaysIn db parts row (outcomes.Spent log) = IsCandidateIn db parts row

-- the formula is the row's, the outcome is that of its clauses, and so much is known of the row
pub record IsDecidedIn (db : List Table) (parts : List Query) (row : List Value) (budget : ℕ) (d : Decided) : Type 0 where
  pub formula : IsEncodedIn db parts row d.formula
  pub outcome : OutcomeIs d.formula.cnf budget d.outcome
  pub says : SaysIn db parts row d.outcome

-- the row's formula, and a log that refutes it
pub record IsRefutedIn (db : List Table) (parts : List Query) (row : List Value) (budget : ℕ) (cnf : Cnf) (log : Log) : Type 0 where
  pub rows : List RowId
  pub formula : IsEncodedIn db parts row (record { cnf = cnf; rows = rows })
  pub refuted : OutcomeIs cnf budget (outcomes.Unsat log)
  pub certain : IsCertainIn db parts row

-- a repair without a witness, or the row's formula with a refutation, where it is within the limit of witnesses
abbrev pub IsReasonIn : List Table → List Query → List Value → ℕ → Reason → Type 0
IsReasonIn db parts row budget (ByBlock table key) = ⊥
IsReasonIn db parts row budget (Rejected names) = AreRejectingRowsIn db parts row names × (HasTooManyIn parts db row → ⊥) × AreStored db names
IsReasonIn db parts row budget (Refuted cnf log) = (HasTooManyIn parts db row → ⊥) × IsRefutedIn db parts row budget cnf log

-- it has too many witnesses; or the budget is used up for its formula, of which there is a spent log
abbrev pub IsUntoldIn : List Table → List Query → List Value → ℕ → Untold → Type 0
IsUntoldIn db parts row budget Over = HasTooManyIn parts db row
IsUntoldIn db parts row budget (Spent cnf log) = (HasTooManyIn parts db row → ⊥) × IsSpentIn db parts budget row cnf log

-- a refusal says what keeps it; want of memory says nothing
abbrev pub IsStoppedIn : List Table → List Query → List Value → ℕ → Fail Untold → Type 0
IsStoppedIn db parts row budget NoMemory = Unit {0}
IsStoppedIn db parts row budget (Refused why) = IsUntoldIn db parts row budget why
