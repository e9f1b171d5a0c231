-- Each statement goes on, and so does each text.
use Rattle.std.proofs.Common.{◌≡◌, ℕ, List, Option, None, Result, Ok, Err, refl}
use Rattle.cqa_value.specs.declared.value.Value.{Value}
use Rattle.cqa_model.specs.declared.query.Query.{Query}
use Rattle.refusals.specs.declared.refusal.Refusal.{Refusal}
use Rattle.refusals.specs.Refusal.{first_of}
use Rattle.refusals.proofs.Faults.{both_none}
use Rattle.spj_syntax.specs.declared.tree.RawGoal.{RawGoal}
use Rattle.spj_syntax.specs.declared.tree.RawRange.{RawRange}
use Rattle.spj_syntax.specs.declared.tree.RawTest.{RawTest}
use Rattle.spj_syntax.specs.declared.tree.Selects.{Selects}
use Rattle.spj_syntax.specs.declared.tree.Statement.{Statement}
use Rattle.spj_syntax.specs.declared.tree.Statement.TheVariants as statements
use Rattle.csv_rows.specs.Dumps.{dump_text}
use Rattle.query_resolve.specs.Names.{columns_at}
use Rattle.query_resolve.specs.Checks.{goal_fault, tests_fault, group_fault, range_join_fault, union_fault, union_row_fault}
use Rattle.query_resolve.specs.Resolved.{AreQueriesOf}
use Rattle.reply_text.specs.declared.reply.Reply.TheVariants.{Rows, Conflicts, Tables, Contested, Dumped, Refused}
use Rattle.session_state.specs.State.{State, IsState}
use Rattle.command_shell.specs.Saying.{Says}
use Rattle.command_shell.specs.Machine.{fault_in, Executes, Does, Step}
use Rattle.query_statements.specs.Range.{asked_fault, range_fault, TellsRange}
use Rattle.query_statements.specs.RangeOfJoin.{TellsRangeJoin}
use Rattle.reason_statements.specs.ExplainUnion.{MayTellUnion, ExplainsUnion}
use Rattle.query_statements.specs.AskUnion.{AnswersUnion}
use Rattle.query_statements.specs.PossibleUnion.{AnswersPossibleUnion}
use Rattle.query_statements.specs.ClassifyUnion.{ClassifiesUnion}
use Rattle.query_statements.specs.SqlUnion.{WritesUnionSql}
use Rattle.session_state.specs.ShowLog.{kept_reply}
use Rattle.command_shell.proofs.Sayings.{says_something}
use Rattle.command_shell.specs.Changing.{GoesOnTo}
use Rattle.command_shell.proofs.States.{found_on}
use Rattle.command_shell.proofs.Whole.{creates_go_on, alters_go_on, inserts_go_on, deletes_go_on, prefers_go_on, copies_go_on}
use Rattle.reading_law.specs.Texts.{IsStorable}
use Rattle.reading_law.proofs.Storing.{statements_are_storable}
use Rattle.reading_law.proofs.Members.{goals_are_resolved, tests_are_resolved, groups_are_resolved}
use Rattle.reading_law.proofs.Queries.{unions_are_resolved}
use Rattle.reading_law.proofs.JoinedRanges.{ranges_are_resolved}
use Rattle.union_ask.specs.Laws.{CandidatesDecide}
use Rattle.existence_law.specs.UnionAnswers.{UnionAnswersExist}
use Rattle.existence_law.specs.UnionReasons.{UnionReasonsExist}
use Rattle.command_shell.specs.Laws.{StepsGoOn}
use Rattle.command_shell.proofs.Keyed.{IsKeyed, keyed}
use Rattle.command_shell.proofs.ShownLines.{tables_are_shown, conflicts_are_shown}
use Rattle.command_shell.proofs.Ranging.{ranges_are_told, join_ranges_are_told}
use Rattle.command_shell.proofs.Uniting.{unions_are_told, union_reasons_are_told, union_classes_are_told}
use Rattle.command_shell.proofs.UnionPlanning.{union_sql_is_told}
use Rattle.command_shell.proofs.Asking.{replied, asking_goes_on}

-- ---- ranges

range_goes_on : (old : State) (name : List ℕ) (goal : RawGoal) (tests : List RawTest) (group : Option (List ℕ)) → IsState old → range_fault old.tables name goal tests group ≡ None → GoesOnTo (TellsRange old name goal tests group)
range_goes_on old name goal tests group is e =
    let db = old.tables in
    let found = found_on db name (asked_fault db goal tests group) e in
    let columns = columns_at db found.at in
    let one = both_none (goal_fault columns goal) (first_of (tests_fault db found.at tests) (group_fault columns group)) found.passes in
    let two = both_none (tests_fault db found.at tests) (group_fault columns group) one.1 in
    let g = goals_are_resolved columns goal one.0 in
    let t = tests_are_resolved db found.at tests two.0 in
    let c = groups_are_resolved columns group two.1 in
    let told = ranges_are_told db found.at g.0 t.0 c.0 in (
      told.0,
      old,
      (
        record { table = found.at; found = found.named; goal = g.0; goal_is = g.1; tests = t.0; tests_are = t.1; tells = record { col = c.0; col_is = c.1; tells = told.1 }; keeps = refl },
        is,
      ),
    )

range_join_goes_on : (old : State) (raw : RawRange) → IsState old → range_join_fault old.tables raw ≡ None → GoesOnTo (TellsRangeJoin old raw)
range_join_goes_on old raw is e =
    let range = ranges_are_resolved old.tables raw is.database e in
    let g = join_ranges_are_told old raw range.0 is range.1 in
    (g.0, g.1, (record { range = range.0; resolved = range.1; told = g.2.0 }, g.2.1))

module _ (answers : UnionAnswersExist) (reasons : UnionReasonsExist) (decide : CandidatesDecide) (old : State) (is : IsState old) where
  -- ---- unions

  module _ (selects : Selects) (e : union_fault old.tables selects.parts ≡ None) where
    abbrev parts : (parts : List Query) × AreQueriesOf old.tables selects.parts parts
    parts = unions_are_resolved old.tables selects.parts is.database selects.two e

    asked : GoesOnTo (AnswersUnion old selects.parts)
    asked = let g = unions_are_told answers old parts.0 is parts.1.parts in (g.0, g.1, (record { parts = parts.0; resolved = parts.1; told = g.2.0 }, g.2.1))

    possible : GoesOnTo (AnswersPossibleUnion old selects.parts)
    possible =
        let found = answers.possible old.tables parts.0 parts.1.parts.fits in
        (Rows found.0, old, (record { parts = parts.0; resolved = parts.1; rows = found.0; possible = found.1; replies = refl; keeps = refl }, is))

    classified : GoesOnTo (ClassifiesUnion old selects.parts)
    classified = let told = union_classes_are_told old.tables selects.parts parts.0 parts.1 in (told.0, old, (record { parts = parts.0; resolved = parts.1; told = told.1; keeps = refl }, is))

    written : GoesOnTo (WritesUnionSql old selects.parts)
    written = let told = union_sql_is_told decide old.tables selects.parts parts.0 parts.1 in (told.0, old, (record { parts = parts.0; resolved = parts.1; told = told.1; keeps = refl }, is))

    explained : (row : List Value) → GoesOnTo (ExplainsUnion old row selects.parts)
    explained row =
        let g = replied (union_row_fault old.tables parts.0 row) old (MayTellUnion old parts.0 row) is (λ n. union_reasons_are_told reasons old parts.0 row is parts.1.parts) in
        (g.0, g.1, (record { parts = parts.0; resolved = parts.1; replied = g.2.0 }, g.2.1))

  -- ---- a statement of which no check fails

  done : (statement : Statement) (block : Option (List ℕ)) → IsStorable statement → IsKeyed statement → fault_in old statement block ≡ None → GoesOnTo (Executes old statement block)
  done (statements.Create raw) block storable key e = creates_go_on old raw is e
  done (statements.Alter name change) block storable key e = alters_go_on old name change is key e
  done (statements.Insert name given) block storable key e = inserts_go_on old name given is storable e
  done (statements.Delete name tests) block storable key e = deletes_go_on old name tests is e
  done (statements.Prefer name tests) block storable key e = prefers_go_on old name tests is e
  done (statements.Copy name) block storable key e = copies_go_on old name block is e
  done (statements.Range goal name tests group) block storable key e = range_goes_on old name goal tests group is e
  done (statements.RangeJoin range) block storable key e = range_join_goes_on old range is e
  done (statements.Asking verb select) block storable key e = asking_goes_on old verb select is e
  done (statements.AskUnion selects) block storable key e = asked selects e
  done (statements.PossibleUnion selects) block storable key e = possible selects e
  done (statements.ClassifyUnion selects) block storable key e = classified selects e
  done (statements.SqlUnion selects) block storable key e = written selects e
  done (statements.ExplainUnion row selects) block storable key e = explained selects e row
  done (statements.SetConflicts conflicts) block storable key e =
      (Conflicts conflicts, record old { budget = conflicts }, (record { budget = refl; replies = refl }, record { database = is.database; valid = is.valid; budget = storable }))
  done statements.ShowTables block storable key e = let lines = tables_are_shown old.tables is.database in (Tables lines.0, old, (record { lines = lines.0; each = lines.1; replies = refl; keeps = refl }, is))
  done statements.ShowConflicts block storable key e = let lines = conflicts_are_shown old.tables is.database in (Contested lines.0, old, (record { lines = lines.0; each = lines.1; replies = refl; keeps = refl }, is))
  done statements.Dump block storable key e = (Dumped (dump_text old.tables), old, (record { replies = refl; keeps = refl }, is))
  done statements.ShowLog block storable key e = (kept_reply old.last_log, old, (record { replies = refl; keeps = refl }, is))

  -- ---- what a text says

  does : (text : List ℕ) (block : Option (List ℕ)) (said : Result Statement Refusal) → Says text said → GoesOnTo (Does old said block)
  does text block (Err refusal) says = (Refused refusal, old, ((refl, refl), is))
  does text block (Ok statement) says =
      replied (fault_in old statement block) old (Executes old statement block) is
      (λ e. done statement block (statements_are_storable text says.tokens statement says.spelled says.fit says.written) (keyed text statement says) e)

  step : (text : List ℕ) (block : Option (List ℕ)) → GoesOnTo (Step old text block)
  step text block =
      let said = says_something text in
      let g = does text block said.0 said.1 in
      (g.0, g.1, (record { said = said.0; says = said.1; does = g.2.0 }, g.2.1))

pub steps_go_on : UnionAnswersExist → UnionReasonsExist → CandidatesDecide → StepsGoOn
steps_go_on answers reasons decide old text block is = step answers reasons decide old is text block
