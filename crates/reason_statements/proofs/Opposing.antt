-- Rows that are kept against a row, as replies.
use Rattle.std.proofs.Common.{◌≡◌, ◌∙◌, inr, ℕ, List, Option, Some, None, Result, Ok, Err, map, refl, sym, ap, subst}
use Rattle.cqa_value.specs.declared.memory.Fail.{Fail}
use Rattle.cqa_value.specs.declared.memory.Fail.TheVariants as fails
use Rattle.cqa_value.specs.declared.value.Value.{Value}
use Rattle.cqa_model.specs.declared.query.Query.{Query}
use Rattle.cqa_model.specs.declared.query.RowId.{RowId}
use Rattle.cqa_model.specs.Database.{Table}
use Rattle.cqa_model.specs.Certain.{IsCertain}
use Rattle.refusals.specs.declared.refusal.Refusal.{Refusal}
use Rattle.plan_reasons.specs.Reasons.{IsPlanReason}
use Rattle.query_resolve.specs.Checks.{answer_fault, query_fault}
use Rattle.query_resolve.specs.Resolved.{IsQueryOf}
use Rattle.repair_back.specs.declared.reason.Reason.{Reason}
use Rattle.repair_back.specs.declared.reason.Reason.TheVariants as reasons
use Rattle.repair_back.specs.declared.reason.Untold.{Untold}
use Rattle.repair_back.specs.declared.reason.Untold.TheVariants as untold
use Rattle.query_strategy.specs.Strategies.{HasNoPlan}
use Rattle.repair_back.specs.Rejected.{AreRejectingRows}
use Rattle.union_ask.specs.QueryReasons.{IsSearchReason}
use Rattle.spj_syntax.specs.declared.tree.Select.{Select}
use Rattle.reply_text.specs.declared.reply.Proof.{Proof}
use Rattle.reply_text.specs.declared.reply.Reply.{Reply}
use Rattle.reply_text.specs.declared.reply.Reply.TheVariants as replies
use Rattle.cqa_model.specs.Graph.{IsPair}
use Rattle.session_state.specs.State.{State}
use Rattle.session_state.specs.Replying.{Replies, IsReplyOutcome}
use Rattle.query_replies.specs.Kept.{kept_line}
use Rattle.session_state.specs.Untold.{RefusesRow}
use Rattle.reason_statements.specs.Against.{rejecting_of, IsDecision, IsAgainstPair, IsToldOf, IsUndecided, StopsAgainst, TellsAgainst, AnswersAgainst}
use Rattle.union_ask.specs.QuerySearching.{IsSpentFor}
use Rattle.session_state.proofs.Spending.{spends}
use Rattle.reason_statements.proofs.Spending.{spent_for}

module _ (db : List Table) (q : Query) (row : List Value) where
  -- a row that a repair rejects isn't certain
  pub uncertain : (names : List RowId) → AreRejectingRows db q row names → IsCertain db q row → ⊥
  uncertain names (ns, (kept, repair, are, none), is) certain = let w = certain kept repair in none w.0 w.1

  -- what a plan finds
  pub plan_decides : (reason : Reason) → (HasNoPlan q → ⊥) → IsPlanReason db q row reason → IsDecision db q row (rejecting_of reason)
  plan_decides (reasons.ByBlock table key) plan h = (h.0.certain, λ needs. absurd (plan needs.0))
  plan_decides (reasons.Rejected names) plan h = h
  plan_decides (reasons.Refuted cnf log) plan h = absurd h

  -- what is found of a pair
  pub pair_decides : (found : Option (List RowId)) → IsPair q → IsAgainstPair db q row found → IsDecision db q row found
  pair_decides None pair h = (h, λ needs. absurd (needs.1 pair))
  pair_decides (Some names) pair h = h

  -- what a search finds
  pub search_decides : (budget : ℕ) (reason : Reason) → IsSearchReason db q row budget reason → IsDecision db q row (rejecting_of reason)
  search_decides budget (reasons.ByBlock table key) h = absurd h
  search_decides budget (reasons.Rejected names) h = (h.0, h.2)
  search_decides budget (reasons.Refuted cnf log) h = (h.1.1.says, λ needs. h.0)

-- how the refusal of a row ends the statement
pub against_refused : (old new : State) (q : Query) (row : List Value) (stop : Untold) (fault : Fail Refusal) → IsUndecided old.tables q row old.budget stop → RefusesRow old row stop fault new →
    IsReplyOutcome (Err fault) old (TellsAgainst old q row) new
against_refused old new q row stop fails.NoMemory u h = h
against_refused old new q row untold.Over (fails.Refused refusal) u h = subst (λ r. StopsAgainst old q row r new) (sym h.0) (refl, u, h.1)
against_refused old new q row (untold.Spent cnf log) (fails.Refused refusal) u h =
    let proof : Proof = record { cnf = cnf; log = log } in
    let spent = spent_for q old.tables old.budget row cnf u.2.0 log u.2.1 in
    subst (λ r. StopsAgainst old q row r new) (sym h.0) (refl, u.0, u.1, spends (IsSpentFor q old.tables old.budget row) old new old.budget proof spent spent.spent refl h.1)

-- the lines of the rows that are kept
pub lines_told : (old : State) (q : Query) (row : List Value) (db : List Table) (reply : Reply) → db ≡ old.tables → (names : List RowId) → IsToldOf old.tables q row (Some names) →
    reply ≡ replies.Against (map (kept_line db) names) → TellsAgainst old q row reply old
lines_told old q row db reply tables names told is = subst (λ z. TellsAgainst old q row z old) (sym (is ∙ ap (λ z. replies.Against (map (kept_line z) names)) tables)) ((names, told, refl), refl)

-- how the answer for a row ends the statement
pub against_answered : (old new : State) (row : List Value) (select : Select) (query : Query) (result : Result Reply (Fail Refusal)) → query_fault old.tables select ≡ None → IsQueryOf old.tables select query →
    IsReplyOutcome result old (Replies (answer_fault old.tables query row) old (TellsAgainst old query row)) new → IsReplyOutcome result old (Replies (query_fault old.tables select) old (AnswersAgainst old row select)) new
against_answered old new row select query (Ok reply) valid resolved told = inr (valid, record { query = query; resolved = resolved; replied = told })
against_answered old new row select query (Err (fails.Refused refusal)) valid resolved told = inr (valid, record { query = query; resolved = resolved; replied = told })
against_answered old new row select query (Err fails.NoMemory) valid resolved told = told
