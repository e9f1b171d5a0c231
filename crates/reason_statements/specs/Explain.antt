-- `explain`
use Rattle.std.specs.Prelude.{◌≡◌, ℕ, List, map, Some}
use Rattle.cqa_value.specs.declared.value.Value.{Value}
use Rattle.cqa_model.specs.declared.query.RowId.{RowId}
use Rattle.cqa_model.specs.declared.query.Query.{Query}
use Rattle.refusals.specs.declared.refusal.Refusal.{Refusal}
use Rattle.refusals.specs.declared.refusal.Refusal.TheVariants.{WitnessLimit, Spent}
use Rattle.join_access.specs.Listing.{HasTooMany}
use Rattle.repair_back.specs.declared.reason.Reason.TheVariants as reasons
use Rattle.query_strategy.specs.Strategies.{NeedsSearch}
use Rattle.spj_syntax.specs.declared.tree.Select.{Select}
use Rattle.query_resolve.specs.Checks.{answer_fault}
use Rattle.query_resolve.specs.Resolved.{IsQueryOf}
use Rattle.reply_text.specs.declared.reply.Reply.{Reply}
use Rattle.reply_text.specs.declared.reply.Reply.TheVariants.{ByBlock, ByRefutation, Rejected, Refused}
use Rattle.session_state.specs.State.{State}
use Rattle.reason_statements.specs.Reasons.{IsReason, IsOverLimit}
use Rattle.session_state.specs.Replying.{Replies}
use Rattle.union_ask.specs.QuerySearching.{IsSpentFor}
use Rattle.session_state.specs.Spent.{Spends}
use Rattle.query_replies.specs.Names.{table_name_at}
use Rattle.query_replies.specs.Kept.{kept_line}

-- What is refused: the row has too many witnesses to be told by its formula; or there is a search, and the budget is used up
-- for it.
abbrev pub StopsFor : State → Query → List Value → Refusal → State → Type 0
StopsFor old q row (WitnessLimit r) new = (r ≡ row) × IsOverLimit old.tables q row × (new ≡ old)
StopsFor old q row (Spent r conflicts) new = (r ≡ row) × NeedsSearch q × (HasTooMany q old.tables row → ⊥) × Spends (IsSpentFor q old.tables old.budget row) old conflicts new
StopsFor old q row _ new = ⊥

-- The reason that is told of a row: a block by the name of its table; a formula with a refutation, which are kept as the last
-- log; or a repair by the lines of its rows.
abbrev pub MayTell : State → Query → List Value → Reply → State → Type 0
MayTell old q row (ByBlock name key) new = ((table : ℕ) × IsReason old.tables q row (reasons.ByBlock table key) × (name ≡ table_name_at old.tables table)) × (new ≡ old)
MayTell old q row (ByRefutation proof) new = IsReason old.tables q row (reasons.Refuted proof.cnf proof.log) × (new ≡ record old { last_log = Some proof })
MayTell old q row (Rejected lines) new = ((names : List RowId) × IsReason old.tables q row (reasons.Rejected names) × (lines ≡ map (kept_line old.tables) names)) × (new ≡ old)
MayTell old q row (Refused refusal) new = StopsFor old q row refusal new
MayTell old q row _ new = ⊥

-- The row is checked against the query, and the reply tells why it is certain or why it isn't.
pub record Explains (old : State) (row : List Value) (select : Select) (reply : Reply) (new : State) : Type 0 where
  pub query : Query
  pub resolved : IsQueryOf old.tables select query
  pub replied : Replies (answer_fault old.tables query row) old (MayTell old query row) reply new
