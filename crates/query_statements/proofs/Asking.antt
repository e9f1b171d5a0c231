-- What is answered to a query is answered to the statement that asks for it.
use Rattle.std.proofs.Common.{◌≡◌, ℕ, List, Option, None, Result, refl, sym, subst}
use Rattle.cqa_value.specs.declared.memory.Fail.{Fail}
use Rattle.cqa_model.specs.declared.query.Query.{Query}
use Rattle.cqa_model.specs.Database.{Table}
use Rattle.row_answers.specs.declared.side.Side.{Side}
use Rattle.part_search.specs.declared.searched.Searched.{Searched}
use Rattle.part_search.specs.declared.searched.Searched.TheVariants.{All, Stopped}
use Rattle.part_search.specs.declared.searched.Stop.{Stop}
use Rattle.part_search.specs.declared.searched.Stop.TheVariants as stops
use Rattle.union_ask.specs.QuerySearching.{IsSearched, IsSpentFor, IsStop}
use Rattle.query_strategy.specs.Strategies.{NeedsSearch}
use Rattle.refusals.specs.declared.refusal.Refusal.{Refusal}
use Rattle.spj_syntax.specs.declared.tree.Select.{Select}
use Rattle.query_resolve.specs.Resolved.{IsQueryOf}
use Rattle.reply_text.specs.declared.reply.Proof.{Proof}
use Rattle.reply_text.specs.declared.reply.Reply.{Reply}
use Rattle.session_state.specs.State.{State}
use Rattle.session_state.specs.Replying.{Replies, IsReplyOutcome}
use Rattle.query_statements.specs.Sides.{AnswersSide, FindsRows, StopsSearch, TellsSide}
use Rattle.query_statements.specs.Stopped.{RefusesStop}
use Rattle.session_state.proofs.Doing.{replied_as, unrefused}
use Rattle.session_state.proofs.Spending.{spends}

module _ (old new : State) (q : Query) (side : Side) where
  -- an answer to the query is one to the statement that asks for it
  pub answered : (fault : Option Refusal) (select : Select) (result : Result Reply (Fail Refusal)) → fault ≡ None → IsQueryOf old.tables select q → IsReplyOutcome result old (TellsSide old q side) new →
      IsReplyOutcome result old (Replies fault old (AnswersSide old select side)) new
  answered fault select result valid resolved told =
      unrefused fault old new (AnswersSide old select side) result valid
      (replied_as old new (TellsSide old q side) (AnswersSide old select side) result (λ reply t. record { query = q; resolved = resolved; told = t }) told)

-- the refusal of the row at which a search stopped
pub search_stopped : (old new : State) (q : Query) (why : Stop) (refusal : Refusal) → IsStop q old.tables old.budget why → RefusesStop old why refusal new → StopsSearch old q refusal new
search_stopped old new q (stops.Over row) refusal is told = subst (λ r. StopsSearch old q r new) (sym told.0) (is, told.1)
search_stopped old new q (stops.Spent row cnf log) refusal is told =
    let proof : Proof = record { cnf = cnf; log = log } in
    subst (λ r. StopsSearch old q r new) (sym told.0) (spends (IsSpentFor q old.tables old.budget row) old new old.budget proof is.0 is.0.spent refl told.1, is.1, is.2)

-- what a search finds, of a query that needs one
pub found_by_search : (q : Query) (db : List Table) (side : Side) (budget : ℕ) (found : Searched) → NeedsSearch q → IsSearched q db side budget found → FindsRows q db side budget found
found_by_search q db side budget (All rows) needs s = (s.0, λ _. s.1)
found_by_search q db side budget (Stopped why) needs s = (needs, s)
