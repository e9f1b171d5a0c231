-- Why rows are certain, and why they aren't: reasons as replies.
use Rattle.std.proofs.Common.{◌≡◌, inr, ℕ, Some, None, List, map, Result, Ok, Err, refl, sym, ap, ◌∙◌, subst}
use Rattle.cqa_value.specs.declared.memory.Fail.{Fail}
use Rattle.cqa_value.specs.declared.memory.Fail.TheVariants as fails
use Rattle.cqa_value.specs.declared.value.Value.{Value}
use Rattle.cqa_model.specs.declared.query.Query.{Query}
use Rattle.cqa_model.specs.declared.query.RowId.{RowId}
use Rattle.refusals.specs.declared.refusal.Refusal.{Refusal}
use Rattle.cqa_model.specs.Database.{Table}
use Rattle.repair_back.specs.declared.reason.Reason.TheVariants as reasons
use Rattle.repair_back.specs.declared.reason.Untold.{Untold}
use Rattle.repair_back.specs.declared.reason.Untold.TheVariants as stops
use Rattle.reason_statements.specs.Reasons.{IsReason, IsUntold}
use Rattle.query_resolve.specs.Checks.{answer_fault, query_fault}
use Rattle.query_resolve.specs.Resolved.{IsQueryOf}
use Rattle.spj_syntax.specs.declared.tree.Select.{Select}
use Rattle.reply_text.specs.declared.reply.Proof.{Proof}
use Rattle.reply_text.specs.declared.reply.Reply.{Reply}
use Rattle.reply_text.specs.declared.reply.Reply.TheVariants as replies
use Rattle.session_state.specs.State.{State}
use Rattle.session_state.specs.Replying.{Replies, IsReplyOutcome}
use Rattle.query_replies.specs.Names.{table_name_at}
use Rattle.query_replies.specs.Kept.{kept_line}
use Rattle.session_state.specs.Untold.{RefusesRow}
use Rattle.reason_statements.specs.Explain.{StopsFor, MayTell, Explains}
use Rattle.union_ask.specs.QuerySearching.{IsSpentFor}
use Rattle.session_state.proofs.Spending.{spends}
use Rattle.reason_statements.proofs.Spending.{spent_for}

module _ (old : State) (q : Query) (row : List Value) (db : List Table) (reply : Reply) (tables : db ≡ old.tables) where
  -- the block by which a row is certain, told by the name of its table
  pub block_told : (table : ℕ) (key : List Value) → IsReason old.tables q row (reasons.ByBlock table key) → reply ≡ replies.ByBlock (table_name_at db table) key → MayTell old q row reply old
  block_told table key reason told = subst (λ z. MayTell old q row z old) (sym (told ∙ ap (λ z. replies.ByBlock (table_name_at z table) key) tables)) ((table, reason, refl), refl)

  -- a repair, told by the lines of its rows
  pub repair_told : (names : List RowId) → IsReason old.tables q row (reasons.Rejected names) → reply ≡ replies.Rejected (map (kept_line db) names) → MayTell old q row reply old
  repair_told names reason told = subst (λ z. MayTell old q row z old) (sym (told ∙ ap (λ z. replies.Rejected (map (kept_line z) names)) tables)) ((names, reason, refl), refl)

-- a formula with its refutation, which is kept
pub refutation_told : (old new : State) (q : Query) (row : List Value) (proof : Proof) (reply : Reply) → IsReason old.tables q row (reasons.Refuted proof.cnf proof.log) → reply ≡ replies.ByRefutation proof →
    new ≡ record old { last_log = Some proof } → MayTell old q row reply new
refutation_told old new q row proof reply reason told kept = subst (λ z. MayTell old q row z new) (sym told) (reason, kept)

-- the refusal of a row whose reason isn't told
pub untold : (old new : State) (q : Query) (row : List Value) (stop : Untold) (fault : Fail Refusal) → IsUntold old.tables q row old.budget stop → RefusesRow old row stop fault new →
    IsReplyOutcome (Err fault) old (MayTell old q row) new
untold old new q row stop fails.NoMemory u h = h
untold old new q row stops.Over (fails.Refused refusal) u h = subst (λ r. StopsFor old q row r new) (sym h.0) (refl, u, h.1)
untold old new q row (stops.Spent cnf log) (fails.Refused refusal) u h =
    let proof : Proof = record { cnf = cnf; log = log } in
    let spent = spent_for q old.tables old.budget row cnf u.2.0 log u.2.1 in
    subst (λ r. StopsFor old q row r new) (sym h.0) (refl, u.0, u.1, spends (IsSpentFor q old.tables old.budget row) old new old.budget proof spent spent.spent refl h.1)

-- how the answer for a row ends the statement
pub explained : (old new : State) (row : List Value) (select : Select) (query : Query) (result : Result Reply (Fail Refusal)) → query_fault old.tables select ≡ None → IsQueryOf old.tables select query →
    IsReplyOutcome result old (Replies (answer_fault old.tables query row) old (MayTell old query row)) new → IsReplyOutcome result old (Replies (query_fault old.tables select) old (Explains old row select)) new
explained old new row select query (Ok reply) valid resolved told = inr (valid, record { query = query; resolved = resolved; replied = told })
explained old new row select query (Err (fails.Refused refusal)) valid resolved told = inr (valid, record { query = query; resolved = resolved; replied = told })
explained old new row select query (Err fails.NoMemory) valid resolved told = told
