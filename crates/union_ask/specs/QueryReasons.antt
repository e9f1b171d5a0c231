-- What a search tells of a row: why it is certain or isn't, or what keeps that from being told.
use Rattle.std.specs.Prelude.{ℕ, List}
use Rattle.cqa_value.specs.declared.memory.Fail.{Fail}
use Rattle.cqa_value.specs.declared.memory.Fail.TheVariants.{NoMemory, Refused}
use Rattle.cqa_value.specs.declared.value.Value.{Value}
use Rattle.cqa_model.specs.declared.query.Query.{Query}
use Rattle.cqa_model.specs.declared.query.RowId.{RowId}
use Rattle.cqa_model.specs.Database.{Table}
use Rattle.cdcl.specs.declared.outcome.Outcome.TheVariants as outcomes
use Rattle.join_access.specs.Listing.{HasTooMany}
use Rattle.repair_back.specs.declared.reason.Reason.{Reason}
use Rattle.repair_back.specs.declared.reason.Reason.TheVariants.{ByBlock, Rejected, Refuted}
use Rattle.repair_back.specs.declared.reason.Untold.{Untold}
use Rattle.repair_back.specs.declared.reason.Untold.TheVariants.{Over, Spent}
use Rattle.table_blocks.specs.Tables.{AreStored}
use Rattle.repair_back.specs.Rejected.{AreRejectingRows}
use Rattle.union_ask.specs.QueryDeciding.{IsDecided}

-- a repair without a witness, or the row's formula with a refutation, where it is within the limit of witnesses
abbrev pub IsSearchReason : List Table → Query → List Value → ℕ → Reason → Type 0
IsSearchReason db q row budget (ByBlock table key) = ⊥
IsSearchReason db q row budget (Rejected names) = AreRejectingRows db q row names × (HasTooMany q db row → ⊥) × AreStored db names
IsSearchReason db q row budget (Refuted cnf log) =
    (HasTooMany q db row → ⊥) × ((rows : List RowId) × IsDecided q db row budget (record { formula = record { cnf = cnf; rows = rows }; outcome = outcomes.Unsat log }))

-- it has too many witnesses; or the budget is used up for its formula, of which there is a spent log
abbrev pub IsSearchStop : List Table → Query → List Value → ℕ → Untold → Type 0
IsSearchStop db q row budget Over = HasTooMany q db row
IsSearchStop db q row budget (Spent cnf log) =
    (HasTooMany q db row → ⊥) × ((rows : List RowId) × IsDecided q db row budget (record { formula = record { cnf = cnf; rows = rows }; outcome = outcomes.Spent log }))

-- a refusal says what keeps it; want of memory says nothing
abbrev pub IsSearchStopped : List Table → Query → List Value → ℕ → Fail Untold → Type 0
IsSearchStopped db q row budget NoMemory = Unit {0}
IsSearchStopped db q row budget (Refused why) = IsSearchStop db q row budget why
