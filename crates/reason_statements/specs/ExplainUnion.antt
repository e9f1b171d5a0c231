-- `explain` of a union
use Rattle.std.specs.Prelude.{◌≡◌, List, map, Some}
use Rattle.cqa_value.specs.declared.value.Value.{Value}
use Rattle.cqa_model.specs.declared.query.RowId.{RowId}
use Rattle.cqa_model.specs.declared.query.Query.{Query}
use Rattle.refusals.specs.declared.refusal.Refusal.{Refusal}
use Rattle.refusals.specs.declared.refusal.Refusal.TheVariants.{WitnessLimit, Spent}
use Rattle.repair_back.specs.declared.reason.Reason.TheVariants as reasons
use Rattle.spj_syntax.specs.declared.tree.Select.{Select}
use Rattle.query_resolve.specs.Checks.{union_row_fault}
use Rattle.query_resolve.specs.Resolved.{AreQueriesOf}
use Rattle.part_search.specs.Parts.{HasTooManyIn}
use Rattle.union_ask.specs.Reasons.{IsReasonIn}
use Rattle.reply_text.specs.declared.reply.Reply.{Reply}
use Rattle.reply_text.specs.declared.reply.Reply.TheVariants.{ByRefutation, Rejected, Refused}
use Rattle.session_state.specs.State.{State}
use Rattle.session_state.specs.Replying.{Replies}
use Rattle.union_ask.specs.Searching.{IsSpentIn}
use Rattle.session_state.specs.Spent.{Spends}
use Rattle.query_replies.specs.Kept.{kept_line}

-- What is refused: the row has too many witnesses for all parts together; or it is a candidate, and the budget is used up for it.
abbrev pub StopsUnionFor : State → List Query → List Value → Refusal → State → Type 0
StopsUnionFor old parts row (WitnessLimit r) new = (r ≡ row) × HasTooManyIn parts old.tables row × (new ≡ old)
StopsUnionFor old parts row (Spent r conflicts) new = (r ≡ row) × (HasTooManyIn parts old.tables row → ⊥) × Spends (IsSpentIn old.tables parts old.budget row) old conflicts new
StopsUnionFor old parts row _ new = ⊥

-- The reason that is told of a row, only where it hasn't too many witnesses: the formula of the union with a refutation, which are
-- kept as the last log; or a repair of the union's tables that holds no witness, by the lines of its rows.
abbrev pub MayTellUnion : State → List Query → List Value → Reply → State → Type 0
MayTellUnion old parts row (ByRefutation proof) new = IsReasonIn old.tables parts row old.budget (reasons.Refuted proof.cnf proof.log) × (new ≡ record old { last_log = Some proof })
MayTellUnion old parts row (Rejected lines) new =
    ((names : List RowId) × IsReasonIn old.tables parts row old.budget (reasons.Rejected names) × (lines ≡ map (kept_line old.tables) names)) × (new ≡ old)
MayTellUnion old parts row (Refused refusal) new = StopsUnionFor old parts row refusal new
MayTellUnion old parts row _ new = ⊥

-- The row is checked against the first part, and the reply tells why it is certain for the union or why it isn't.
pub record ExplainsUnion (old : State) (row : List Value) (selects : List Select) (reply : Reply) (new : State) : Type 0 where
  pub parts : List Query
  pub resolved : AreQueriesOf old.tables selects parts
  pub replied : Replies (union_row_fault old.tables parts row) old (MayTellUnion old parts row) reply new
