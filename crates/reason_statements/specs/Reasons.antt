-- Why a row is certain for a query, or why it isn't, and what keeps that from being told, by whichever method.
use Rattle.std.specs.Prelude.{ℕ, ◌<◌, List, length}
use Rattle.cqa_value.specs.declared.memory.Fail.{Fail}
use Rattle.cqa_value.specs.declared.memory.Fail.TheVariants.{NoMemory, Refused}
use Rattle.cqa_value.specs.declared.value.Value.{Value}
use Rattle.cqa_model.specs.declared.query.Query.{Query}
use Rattle.cqa_model.specs.declared.query.RowId.{RowId}
use Rattle.cqa_model.specs.Database.{Table}
use Rattle.cqa_model.specs.Certain.{IsCertain}
use Rattle.cnf_form.specs.declared.formula.Cnf.{Cnf}
use Rattle.cnf_form.specs.declared.log.Log.{Log}
use Rattle.cnf_form.specs.Logs.{Refutes}
use Rattle.cdcl.specs.declared.outcome.Outcome.TheVariants as outcomes
use Rattle.join_access.specs.Listing.{HasTooMany}
use Rattle.plan_reasons.specs.Reasons.{IsByBlock}
use Rattle.repair_back.specs.declared.reason.Reason.{Reason}
use Rattle.repair_back.specs.declared.reason.Reason.TheVariants.{ByBlock, Rejected, Refuted}
use Rattle.repair_back.specs.declared.reason.Untold.{Untold}
use Rattle.repair_back.specs.declared.reason.Untold.TheVariants.{Over, Spent}
use Rattle.query_strategy.specs.Strategies.{HasNoPlan, NeedsSearch}
use Rattle.table_blocks.specs.Tables.{AreStored}
use Rattle.repair_back.specs.Rejected.{AreRejectingRows}
use Rattle.repair_clauses.specs.Encodings.{IsEncoded}
use Rattle.union_ask.specs.QueryDeciding.{IsDecided}
use Rattle.cqa_model.specs.Graph.{IsPair}

-- a formula is the row's, and a log refutes it (Dixit and Kolaitis, SAT 2019)
pub record IsRefuted (db : List Table) (q : Query) (row : List Value) (cnf : Cnf) (log : Log) : Type 0 where
  pub rows : List RowId
  pub formula : IsEncoded q db row (record { cnf = cnf; rows = rows })
  pub refutes : Refutes cnf log.steps

-- Why a row is certain, or why it isn't: the block by which it is certain, where a plan holds; where it is within the limit
-- of witnesses, its formula with a refutation, for a query that has no plan; or a repair without a witness, which only a row
-- of a query that needs search must be within the limit for.
abbrev pub IsReason : List Table → Query → List Value → Reason → Type 0
IsReason db q row (ByBlock table key) = IsByBlock db q row table key × (table < length db)
IsReason db q row (Rejected names) = AreRejectingRows db q row names × (NeedsSearch q → HasTooMany q db row → ⊥) × AreStored db names
IsReason db q row (Refuted cnf log) = HasNoPlan q × (HasTooMany q db row → ⊥) × IsRefuted db q row cnf log

-- The query has no plan, and the row has too many witnesses for a formula; of two atoms that attack each other weakly only a
-- certain row is told by one.
abbrev pub IsOverLimit : List Table → Query → List Value → Type 0
IsOverLimit db q row = HasNoPlan q × HasTooMany q db row × (IsPair q → IsCertain db q row)

-- What keeps the reason of a row from being told: it has too many witnesses; or there is a search, and the budget is used up
-- for its formula, of which there is a spent log.
abbrev pub IsUntold : List Table → Query → List Value → ℕ → Untold → Type 0
IsUntold db q row budget Over = IsOverLimit db q row
IsUntold db q row budget (Spent cnf log) =
    NeedsSearch q × (HasTooMany q db row → ⊥) × ((rows : List RowId) × IsDecided q db row budget (record { formula = record { cnf = cnf; rows = rows }; outcome = outcomes.Spent log }))

-- a refusal says what keeps it; want of memory says nothing
abbrev pub IsStopped : List Table → Query → List Value → ℕ → Fail Untold → Type 0
IsStopped db q row budget NoMemory = Unit {0}
IsStopped db q row budget (Refused why) = IsUntold db q row budget why
