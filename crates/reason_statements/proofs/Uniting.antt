-- Why rows are certain for a union, and why they aren't: reasons as replies.
use Rattle.std.proofs.Common.{◌≡◌, List, None, Some, map, Result, Err, refl, sym, ap, ◌∙◌, subst}
use Rattle.cqa_value.specs.declared.memory.Fail.{Fail}
use Rattle.cqa_value.specs.declared.memory.Fail.TheVariants as fails
use Rattle.cqa_value.specs.declared.value.Value.{Value}
use Rattle.cqa_model.specs.declared.query.Query.{Query}
use Rattle.cqa_model.specs.declared.query.RowId.{RowId}
use Rattle.cqa_model.specs.Database.{Table}
use Rattle.refusals.specs.declared.refusal.Refusal.{Refusal}
use Rattle.spj_syntax.specs.declared.tree.Select.{Select}
use Rattle.query_resolve.specs.Checks.{union_fault, union_row_fault}
use Rattle.query_resolve.specs.Resolved.{AreQueriesOf}
use Rattle.repair_back.specs.declared.reason.Reason.TheVariants as reasons
use Rattle.repair_back.specs.declared.reason.Untold.{Untold}
use Rattle.repair_back.specs.declared.reason.Untold.TheVariants as untold
use Rattle.union_ask.specs.Reasons.{IsReasonIn, IsUntoldIn}
use Rattle.union_ask.specs.Searching.{IsSpentIn}
use Rattle.reply_text.specs.declared.reply.Proof.{Proof}
use Rattle.reply_text.specs.declared.reply.Reply.{Reply}
use Rattle.reply_text.specs.declared.reply.Reply.TheVariants as replies
use Rattle.session_state.specs.State.{State}
use Rattle.session_state.specs.Replying.{Replies, IsReplyOutcome}
use Rattle.query_replies.specs.Kept.{kept_line}
use Rattle.session_state.specs.Untold.{RefusesRow}
use Rattle.reason_statements.specs.ExplainUnion.{ExplainsUnion, MayTellUnion, StopsUnionFor}
use Rattle.session_state.proofs.Doing.{replied_as, unrefused}
use Rattle.session_state.proofs.Spending.{spends}

module _ (old new : State) (parts : List Query) where
  -- the refusal of a row whose reason isn't told
  pub union_untold : (row : List Value) (why : Untold) (fault : Fail Refusal) → IsUntoldIn old.tables parts row old.budget why → RefusesRow old row why fault new → IsReplyOutcome (Err fault) old (MayTellUnion old parts row) new
  union_untold row why fails.NoMemory is told = told
  union_untold row untold.Over (fails.Refused refusal) is told = subst (λ r. StopsUnionFor old parts row r new) (sym told.0) (refl, is, told.1)
  union_untold row (untold.Spent cnf log) (fails.Refused refusal) is told =
      let proof : Proof = record { cnf = cnf; log = log } in
      subst (λ r. StopsUnionFor old parts row r new) (sym told.0) (refl, is.0, spends (IsSpentIn old.tables parts old.budget row) old new old.budget proof is.1 is.1.spent refl told.1)

  -- a formula with its refutation, which is kept
  pub union_refuted : (row : List Value) (proof : Proof) (reply : Reply) → IsReasonIn old.tables parts row old.budget (reasons.Refuted proof.cnf proof.log) → reply ≡ replies.ByRefutation proof → new ≡ record old { last_log = Some proof } →
      MayTellUnion old parts row reply new
  union_refuted row proof reply reason told kept = subst (λ z. MayTellUnion old parts row z new) (sym told) (reason, kept)

  -- what is told of the row is told to the statement
  pub union_explained : (row : List Value) (selects : List Select) (result : Result Reply (Fail Refusal)) → union_fault old.tables selects ≡ None → AreQueriesOf old.tables selects parts →
      IsReplyOutcome result old (Replies (union_row_fault old.tables parts row) old (MayTellUnion old parts row)) new → IsReplyOutcome result old (Replies (union_fault old.tables selects) old (ExplainsUnion old row selects)) new
  union_explained row selects result valid resolved told =
      unrefused (union_fault old.tables selects) old new (ExplainsUnion old row selects) result valid
      (replied_as old new (Replies (union_row_fault old.tables parts row) old (MayTellUnion old parts row)) (ExplainsUnion old row selects) result (λ reply t. record { parts = parts; resolved = resolved; replied = t }) told)

-- a repair, told by the lines of its rows
pub union_rejected : (old : State) (parts : List Query) (row : List Value) (db : List Table) (names : List RowId) (reply : Reply) → db ≡ old.tables → IsReasonIn old.tables parts row old.budget (reasons.Rejected names) →
    reply ≡ replies.Rejected (map (kept_line db) names) → MayTellUnion old parts row reply old
union_rejected old parts row db names reply tables reason told =
    subst (λ z. MayTellUnion old parts row z old) (sym (told ∙ ap (λ z. replies.Rejected (map (kept_line z) names)) tables)) ((names, reason, refl), refl)
