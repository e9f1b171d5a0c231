-- What is answered to unions.
use Rattle.std.proofs.Common.{◌≡◌, List, None, Result, refl, sym, subst}
use Rattle.cqa_value.specs.declared.memory.Fail.{Fail}
use Rattle.cqa_model.specs.declared.query.Query.{Query}
use Rattle.refusals.specs.declared.refusal.Refusal.{Refusal}
use Rattle.spj_syntax.specs.declared.tree.Select.{Select}
use Rattle.query_resolve.specs.Checks.{union_fault}
use Rattle.query_resolve.specs.Resolved.{AreQueriesOf}
use Rattle.part_search.specs.declared.searched.Stop.{Stop}
use Rattle.part_search.specs.declared.searched.Stop.TheVariants as stops
use Rattle.union_ask.specs.Searching.{IsSpentIn, IsStopIn}
use Rattle.reply_text.specs.declared.reply.Proof.{Proof}
use Rattle.reply_text.specs.declared.reply.Reply.{Reply}
use Rattle.session_state.specs.State.{State}
use Rattle.session_state.specs.Replying.{Replies, IsReplyOutcome}
use Rattle.query_statements.specs.Stopped.{RefusesStop}
use Rattle.query_statements.specs.AskUnion.{AnswersUnion, StopsUnion, TellsUnion}
use Rattle.session_state.proofs.Doing.{replied_as, unrefused}
use Rattle.session_state.proofs.Spending.{spends}

module _ (old new : State) (parts : List Query) where
  -- the refusal of the row at which a search stopped
  pub union_stopped : (why : Stop) (refusal : Refusal) → IsStopIn old.tables parts old.budget why → RefusesStop old why refusal new → StopsUnion old parts refusal new
  union_stopped (stops.Over row) refusal is told = subst (λ r. StopsUnion old parts r new) (sym told.0) (is, told.1)
  union_stopped (stops.Spent row cnf log) refusal is told =
      let proof : Proof = record { cnf = cnf; log = log } in
      subst (λ r. StopsUnion old parts r new) (sym told.0) (spends (IsSpentIn old.tables parts old.budget row) old new old.budget proof is.0 is.0.spent refl told.1, is.1, is.2)

  -- what is answered to the parts is answered to the statement
  pub union_answered : (selects : List Select) (result : Result Reply (Fail Refusal)) → union_fault old.tables selects ≡ None → AreQueriesOf old.tables selects parts → IsReplyOutcome result old (TellsUnion old parts) new →
      IsReplyOutcome result old (Replies (union_fault old.tables selects) old (AnswersUnion old selects)) new
  union_answered selects result valid resolved told =
      unrefused (union_fault old.tables selects) old new (AnswersUnion old selects) result valid
      (replied_as old new (TellsUnion old parts) (AnswersUnion old selects) result (λ reply t. record { parts = parts; resolved = resolved; told = t }) told)
