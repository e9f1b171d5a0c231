-- One step of the machine: what it replies to a statement, and the state after it.
use Rattle.std.specs.Prelude.{◌≡◌, ℕ, List, Option, None, Result, Ok, Err}
use Rattle.spj_syntax.specs.declared.tree.Statement.{Statement}
use Rattle.spj_syntax.specs.declared.tree.Statement.TheVariants as statements
use Rattle.spj_syntax.specs.declared.tree.Select.{Select}
use Rattle.spj_syntax.specs.declared.tree.Verb.{Verb}
use Rattle.spj_syntax.specs.declared.tree.Verb.TheVariants as verbs
use Rattle.query_resolve.specs.Checks.{schema_fault, query_fault, range_join_fault, union_fault}
use Rattle.refusals.specs.declared.refusal.Refusal.{Refusal}
use Rattle.reply_text.specs.declared.reply.Reply.{Reply}
use Rattle.reply_text.specs.declared.reply.Reply.TheVariants.{Refused}
use Rattle.session_state.specs.State.{State}
use Rattle.command_shell.specs.Saying.{Says}
use Rattle.session_state.specs.Replying.{Replies}
use Rattle.session_state.specs.Create.{Creates}
use Rattle.session_state.specs.Alter.{alter_fault, Alters}
use Rattle.session_state.specs.Insert.{insert_into_fault, InsertsInto}
use Rattle.session_state.specs.Delete.{delete_from_fault, DeletesFrom}
use Rattle.session_state.specs.Prefer.{prefer_fault, PrefersIn}
use Rattle.session_state.specs.Copy.{copy_into_fault, CopiesInto}
use Rattle.query_statements.specs.Range.{range_fault, TellsRange}
use Rattle.query_statements.specs.RangeOfJoin.{TellsRangeJoin}
use Rattle.query_statements.specs.Ask.{AnswersCertain}
use Rattle.query_statements.specs.Possible.{AnswersPossible}
use Rattle.query_statements.specs.Disputed.{AnswersDisputed}
use Rattle.query_statements.specs.Classify.{Classifies}
use Rattle.query_statements.specs.Plan.{ShowsPlan}
use Rattle.query_statements.specs.Sql.{WritesSql}
use Rattle.reason_statements.specs.Explain.{Explains}
use Rattle.reason_statements.specs.Against.{AnswersAgainst}
use Rattle.reason_statements.specs.Prove.{ProvesRow}
use Rattle.query_statements.specs.AskUnion.{AnswersUnion}
use Rattle.query_statements.specs.PossibleUnion.{AnswersPossibleUnion}
use Rattle.query_statements.specs.ClassifyUnion.{ClassifiesUnion}
use Rattle.query_statements.specs.SqlUnion.{WritesUnionSql}
use Rattle.reason_statements.specs.ExplainUnion.{ExplainsUnion}
use Rattle.session_state.specs.SetConflicts.{SetsConflicts}
use Rattle.session_state.specs.ShowTables.{ShowsTables}
use Rattle.session_state.specs.ShowConflicts.{ShowsConflicts}
use Rattle.session_state.specs.Dump.{Dumps}
use Rattle.session_state.specs.ShowLog.{ShowsLog}

-- ---- what is asked of a query: what it may do where none of the query's checks fails

abbrev pub Asks : State → Verb → Select → Reply → State → Type 0
Asks old verbs.Ask select reply new = AnswersCertain old select reply new
Asks old verbs.Possible select reply new = AnswersPossible old select reply new
Asks old verbs.Disputed select reply new = AnswersDisputed old select reply new
Asks old verbs.Classify select reply new = Classifies old select reply new
Asks old verbs.Plan select reply new = ShowsPlan old select reply new
Asks old verbs.Sql select reply new = WritesSql old select reply new
Asks old (verbs.Explain row) select reply new = Explains old row select reply new
Asks old (verbs.Against row) select reply new = AnswersAgainst old row select reply new
Asks old (verbs.Prove row) select reply new = ProvesRow old row select reply new

-- ---- a statement, with the block that follows it: the first of its checks that fails in a state, and what it may do where none fails

abbrev pub fault_in : State → Statement → Option (List ℕ) → Option Refusal
fault_in old (statements.Create raw) block = schema_fault old.tables raw
fault_in old (statements.Alter name change) block = alter_fault old.tables name change
fault_in old (statements.Insert name rows) block = insert_into_fault old.tables name rows
fault_in old (statements.Delete name tests) block = delete_from_fault old.tables name tests
fault_in old (statements.Prefer name tests) block = prefer_fault old.tables name tests
fault_in old (statements.Copy name) block = copy_into_fault old.tables name
fault_in old (statements.Range goal name tests group) block = range_fault old.tables name goal tests group
fault_in old (statements.RangeJoin range) block = range_join_fault old.tables range
fault_in old (statements.Asking verb select) block = query_fault old.tables select
fault_in old (statements.AskUnion selects) block = union_fault old.tables selects.parts
fault_in old (statements.PossibleUnion selects) block = union_fault old.tables selects.parts
fault_in old (statements.ClassifyUnion selects) block = union_fault old.tables selects.parts
fault_in old (statements.SqlUnion selects) block = union_fault old.tables selects.parts
fault_in old (statements.ExplainUnion row selects) block = union_fault old.tables selects.parts
fault_in old (statements.SetConflicts conflicts) block = None
fault_in old statements.ShowTables block = None
fault_in old statements.ShowConflicts block = None
fault_in old statements.Dump block = None
fault_in old statements.ShowLog block = None

abbrev pub Executes : State → Statement → Option (List ℕ) → Reply → State → Type 0
Executes old (statements.Create raw) block reply new = Creates old raw reply new
Executes old (statements.Alter name change) block reply new = Alters old name change reply new
Executes old (statements.Insert name rows) block reply new = InsertsInto old name rows reply new
Executes old (statements.Delete name tests) block reply new = DeletesFrom old name tests reply new
Executes old (statements.Prefer name tests) block reply new = PrefersIn old name tests reply new
Executes old (statements.Copy name) block reply new = CopiesInto old name block reply new
Executes old (statements.Range goal name tests group) block reply new = TellsRange old name goal tests group reply new
Executes old (statements.RangeJoin range) block reply new = TellsRangeJoin old range reply new
Executes old (statements.Asking verb select) block reply new = Asks old verb select reply new
Executes old (statements.AskUnion selects) block reply new = AnswersUnion old selects.parts reply new
Executes old (statements.PossibleUnion selects) block reply new = AnswersPossibleUnion old selects.parts reply new
Executes old (statements.ClassifyUnion selects) block reply new = ClassifiesUnion old selects.parts reply new
Executes old (statements.SqlUnion selects) block reply new = WritesUnionSql old selects.parts reply new
Executes old (statements.ExplainUnion row selects) block reply new = ExplainsUnion old row selects.parts reply new
Executes old (statements.SetConflicts conflicts) block reply new = SetsConflicts old conflicts reply new
Executes old statements.ShowTables block reply new = ShowsTables old reply new
Executes old statements.ShowConflicts block reply new = ShowsConflicts old reply new
Executes old statements.Dump block reply new = Dumps old reply new
Executes old statements.ShowLog block reply new = ShowsLog old reply new

-- what the machine may do with what a text says, and its block
abbrev pub Does : State → Result Statement Refusal → Option (List ℕ) → Reply → State → Type 0
Does old (Err refusal) block reply new = (reply ≡ Refused refusal) × (new ≡ old)
Does old (Ok statement) block reply new = Replies (fault_in old statement block) old (Executes old statement block) reply new

-- From old, the machine may give this reply to a statement's text, with its block, and go on to new.
pub record Step (old : State) (text : List ℕ) (block : Option (List ℕ)) (reply : Reply) (new : State) : Type 0 where
  pub said : Result Statement Refusal
  pub says : Says text said
  pub does : Does old said block reply new
