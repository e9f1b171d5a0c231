-- The rows of a side of a query: what `ask` and `disputed` answer, and where a search for them stops.
use Rattle.std.specs.Prelude.{◌≡◌, ℕ, List}
use Rattle.cqa_value.specs.declared.value.Value.{Value}
use Rattle.cqa_model.specs.declared.query.Query.{Query}
use Rattle.refusals.specs.declared.refusal.Refusal.{Refusal}
use Rattle.refusals.specs.declared.refusal.Refusal.TheVariants.{WitnessLimit, Spent}
use Rattle.cqa_model.specs.Database.{Table}
use Rattle.cqa_model.specs.Certain.{IsCandidate}
use Rattle.join_access.specs.Listing.{HasTooMany}
use Rattle.row_answers.specs.declared.side.Side.{Side}
use Rattle.row_answers.specs.Sides.{IsAnswerOf}
use Rattle.part_search.specs.declared.searched.Searched.{Searched}
use Rattle.part_search.specs.declared.searched.Searched.TheVariants.{All, Stopped}
use Rattle.union_ask.specs.QuerySearching.{NoneBefore, IsSpentFor, IsStop}
use Rattle.query_strategy.specs.Strategies.{NeedsSearch}
use Rattle.spj_syntax.specs.declared.tree.Select.{Select}
use Rattle.query_resolve.specs.Resolved.{IsQueryOf}
use Rattle.reply_text.specs.declared.reply.Reply.{Reply}
use Rattle.reply_text.specs.declared.reply.Reply.TheVariants.{Rows, Refused}
use Rattle.session_state.specs.State.{State}
use Rattle.session_state.specs.Spent.{Spends}

-- no candidate has more witnesses than a search takes
abbrev pub IsWithinWitnesses : List Table → Query → Type 0
IsWithinWitnesses db q = (row : List Value) → IsCandidate db q row → HasTooMany q db row → ⊥

-- What the method of a query comes to: the rows of the side, where it needs search, only while no candidate has too many
-- witnesses; or where a search stopped.
abbrev pub FindsRows : Query → List Table → Side → ℕ → Searched → Type 0
FindsRows q db side budget (All rows) = IsAnswerOf db q side rows × (NeedsSearch q → IsWithinWitnesses db q)
FindsRows q db side budget (Stopped why) = NeedsSearch q × IsStop q db budget why

-- the row is the first candidate with too many witnesses
abbrev pub IsFirstOver : List Table → Query → List Value → Type 0
IsFirstOver db q row = IsCandidate db q row × HasTooMany q db row × NoneBefore q db row

-- What is refused to a query that needs search: the first candidate with too many witnesses, or a candidate for which
-- the budget is used up, where none up to it has too many.
abbrev pub StopsSearch : State → Query → Refusal → State → Type 0
StopsSearch old q (WitnessLimit row) new = IsFirstOver old.tables q row × (new ≡ old)
StopsSearch old q (Spent row conflicts) new = Spends (IsSpentFor q old.tables old.budget row) old conflicts new × (HasTooMany q old.tables row → ⊥) × NoneBefore q old.tables row
StopsSearch old q _ new = ⊥

-- What is answered to a query: the rows of the side, and where it needs search, only while no candidate has too many
-- witnesses; else the refusal. A query that needs none is never refused so.
abbrev pub TellsSide : State → Query → Side → Reply → State → Type 0
TellsSide old q side (Rows rows) new = IsAnswerOf old.tables q side rows × (NeedsSearch q → IsWithinWitnesses old.tables q) × (new ≡ old)
TellsSide old q side (Refused refusal) new = NeedsSearch q × StopsSearch old q refusal new
TellsSide old q side _ new = ⊥

-- The reply is the rows of the side of the query, or says where a search stopped.
pub record AnswersSide (old : State) (select : Select) (side : Side) (reply : Reply) (new : State) : Type 0 where
  pub query : Query
  pub resolved : IsQueryOf old.tables select query
  pub told : TellsSide old query side reply new
