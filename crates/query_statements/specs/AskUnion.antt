-- `ask` of a union
use Rattle.std.specs.Prelude.{◌≡◌, List}
use Rattle.cqa_model.specs.declared.query.Query.{Query}
use Rattle.cqa_model.specs.Unions.{IsUnionAnswer}
use Rattle.refusals.specs.declared.refusal.Refusal.{Refusal}
use Rattle.refusals.specs.declared.refusal.Refusal.TheVariants.{WitnessLimit, Spent}
use Rattle.spj_syntax.specs.declared.tree.Select.{Select}
use Rattle.query_resolve.specs.Resolved.{AreQueriesOf}
use Rattle.part_search.specs.Parts.{HasTooManyIn}
use Rattle.union_ask.specs.Searching.{IsFirstOverIn, IsSpentIn, IsWithinIn, NoneBeforeIn}
use Rattle.reply_text.specs.declared.reply.Reply.{Reply}
use Rattle.reply_text.specs.declared.reply.Reply.TheVariants.{Rows, Refused}
use Rattle.session_state.specs.State.{State}
use Rattle.session_state.specs.Spent.{Spends}

-- What is refused: the first candidate with too many witnesses; or a candidate for which the budget is used up, where none up to
-- it has too many.
abbrev pub StopsUnion : State → List Query → Refusal → State → Type 0
StopsUnion old parts (WitnessLimit row) new = IsFirstOverIn old.tables parts row × (new ≡ old)
StopsUnion old parts (Spent row conflicts) new = Spends (IsSpentIn old.tables parts old.budget row) old conflicts new × (HasTooManyIn parts old.tables row → ⊥) × NoneBeforeIn old.tables parts row
StopsUnion old parts _ new = ⊥

-- What is answered to the parts: the rows that are certain for the union, only while no candidate has too many witnesses; else the
-- refusal.
abbrev pub TellsUnion : State → List Query → Reply → State → Type 0
TellsUnion old parts (Rows rows) new = IsUnionAnswer old.tables parts rows × IsWithinIn old.tables parts × (new ≡ old)
TellsUnion old parts (Refused refusal) new = StopsUnion old parts refusal new
TellsUnion old parts _ new = ⊥

-- The reply is the certain answer of the union, or says where a search stopped.
pub record AnswersUnion (old : State) (selects : List Select) (reply : Reply) (new : State) : Type 0 where
  pub parts : List Query
  pub resolved : AreQueriesOf old.tables selects parts
  pub told : TellsUnion old parts reply new
