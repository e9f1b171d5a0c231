-- `against`
use Rattle.std.specs.Prelude.{◌≡◌, ℕ, List, map, Option, Some, None}
use Rattle.cqa_value.specs.declared.memory.Fail.{Fail}
use Rattle.cqa_value.specs.declared.memory.Fail.TheVariants as fails
use Rattle.cqa_value.specs.declared.value.Value.{Value}
use Rattle.cqa_model.specs.declared.query.RowId.{RowId}
use Rattle.cqa_model.specs.declared.query.Query.{Query}
use Rattle.cqa_model.specs.Database.{Table}
use Rattle.cqa_model.specs.Certain.{IsCertain}
use Rattle.refusals.specs.declared.refusal.Refusal.{Refusal}
use Rattle.refusals.specs.declared.refusal.Refusal.TheVariants.{WitnessLimit, Spent}
use Rattle.join_access.specs.Listing.{HasTooMany}
use Rattle.repair_back.specs.declared.reason.Reason.{Reason}
use Rattle.repair_back.specs.declared.reason.Reason.TheVariants as reasons
use Rattle.repair_back.specs.declared.reason.Untold.{Untold}
use Rattle.repair_back.specs.declared.reason.Untold.TheVariants as untold
use Rattle.query_strategy.specs.Strategies.{NeedsSearch}
use Rattle.table_blocks.specs.Tables.{AreStored}
use Rattle.repair_back.specs.Rejected.{AreRejectingRows}
use Rattle.rows_against.specs.Against.{IsAgainst}
use Rattle.spj_syntax.specs.declared.tree.Select.{Select}
use Rattle.query_resolve.specs.Checks.{answer_fault}
use Rattle.query_resolve.specs.Resolved.{IsQueryOf}
use Rattle.reply_text.specs.declared.reply.Reply.{Reply}
use Rattle.reply_text.specs.declared.reply.Reply.TheVariants as replies
use Rattle.session_state.specs.State.{State}
use Rattle.reason_statements.specs.Reasons.{IsUntold}
use Rattle.session_state.specs.Replying.{Replies}
use Rattle.union_ask.specs.QuerySearching.{IsSpentFor}
use Rattle.session_state.specs.Spent.{Spends}
use Rattle.query_replies.specs.Kept.{kept_line}

-- the rows that a repair without a witness had to choose, where a reason is one
abbrev pub rejecting_of : Reason → Option (List RowId)
rejecting_of (reasons.ByBlock table key) = None
rejecting_of (reasons.Rejected names) = Some names
rejecting_of (reasons.Refuted cnf log) = None

-- The method of a query finds that a row is certain, which a search does only within the limit of witnesses; or a repair
-- without a witness.
abbrev pub IsDecision : List Table → Query → List Value → Option (List RowId) → Type 0
IsDecision db q row None = IsCertain db q row × (NeedsSearch q → HasTooMany q db row → ⊥)
IsDecision db q row (Some names) = AreRejectingRows db q row names × AreStored db names

-- the same of a pair, of which no witnesses are listed
abbrev pub IsAgainstPair : List Table → Query → List Value → Option (List RowId) → Type 0
IsAgainstPair db q row None = IsCertain db q row
IsAgainstPair db q row (Some names) = AreRejectingRows db q row names × AreStored db names

-- What is told of a row: that it is certain, or the rows that are kept against it.
abbrev pub IsToldOf : List Table → Query → List Value → Option (List RowId) → Type 0
IsToldOf db q row None = IsCertain db q row × (NeedsSearch q → HasTooMany q db row → ⊥)
IsToldOf db q row (Some names) = IsAgainst db q row names × (HasTooMany q db row → ⊥)

-- The row has more than `MOST_WITNESSES` witnesses, and isn't certain; where the query needs search, it may also be certain.
abbrev pub HasTooManyAgainst : List Table → Query → List Value → Type 0
HasTooManyAgainst db q row = HasTooMany q db row × ((NeedsSearch q → ⊥) → IsCertain db q row → ⊥)

-- What keeps that from being told: too many witnesses; or the budget is used up for the row's formula, as for `explain`.
abbrev pub IsUndecided : List Table → Query → List Value → ℕ → Untold → Type 0
IsUndecided db q row budget untold.Over = HasTooManyAgainst db q row
IsUndecided db q row budget (untold.Spent cnf log) = IsUntold db q row budget (untold.Spent cnf log)

-- a refusal says what keeps it; want of memory says nothing
abbrev pub IsUndecidedBy : List Table → Query → List Value → ℕ → Fail Untold → Type 0
IsUndecidedBy db q row budget fails.NoMemory = Unit {0}
IsUndecidedBy db q row budget (fails.Refused why) = IsUndecided db q row budget why

-- What is refused: the row has too many witnesses; or there is a search, and the budget is used up for it.
abbrev pub StopsAgainst : State → Query → List Value → Refusal → State → Type 0
StopsAgainst old q row (WitnessLimit r) new = (r ≡ row) × HasTooManyAgainst old.tables q row × (new ≡ old)
StopsAgainst old q row (Spent r conflicts) new = (r ≡ row) × NeedsSearch q × (HasTooMany q old.tables row → ⊥) × Spends (IsSpentFor q old.tables old.budget row) old conflicts new
StopsAgainst old q row _ new = ⊥

-- What is told of a row: that it is certain; or the lines of the rows that are kept against it, a few stored rows such that no
-- repair that keeps them holds a witness of it. Neither changes anything.
abbrev pub TellsAgainst : State → Query → List Value → Reply → State → Type 0
TellsAgainst old q row replies.Certain new = IsToldOf old.tables q row None × (new ≡ old)
TellsAgainst old q row (replies.Against lines) new = ((names : List RowId) × IsToldOf old.tables q row (Some names) × (lines ≡ map (kept_line old.tables) names)) × (new ≡ old)
TellsAgainst old q row (replies.Refused refusal) new = StopsAgainst old q row refusal new
TellsAgainst old q row _ new = ⊥

-- The row is checked against the query, and the reply tells which rows are kept against it.
pub record AnswersAgainst (old : State) (row : List Value) (select : Select) (reply : Reply) (new : State) : Type 0 where
  pub query : Query
  pub resolved : IsQueryOf old.tables select query
  pub replied : Replies (answer_fault old.tables query row) old (TellsAgainst old query row) reply new
