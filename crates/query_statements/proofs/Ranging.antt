-- The rows that a range names are stored, and so their lines can be told; and how a range is refused or told.
use Rattle.std.proofs.Common.{◌≡◌, ◌<◌, inl, inr, ℕ, zero, suc, List, [], ◌∷◌, length, get_or, Contains, Option, Some, None, Result, Ok, Err, refl, sym, ap, ◌∙◌, subst, arith}
use Rattle.std.proofs.lemmas.Bool.{cases_lt}
use Rattle.std.proofs.lemmas.List.{get_or_past, length-map}
use Rattle.cqa_value.specs.declared.value.Value.{Value}
use Rattle.cqa_value.proofs.Words.{Contains-map}
use Rattle.cqa_value.specs.declared.memory.Fail.{Fail}
use Rattle.aggregate_range.specs.declared.aggregate.End.{End}
use Rattle.aggregate_range.specs.declared.aggregate.Goal.{Goal}
use Rattle.cqa_model.specs.declared.query.RowId.{RowId}
use Rattle.cqa_model.specs.Database.{Table, IsDatabase, IsTable, stored}
use Rattle.cqa_model.specs.Repairs.{IsTableRepair}
use Rattle.cqa_model.proofs.Classic.{mem-head, mem-tail, mem-nil}
use Rattle.cqa_model.proofs.Repairs.{sublist-stored}
use Rattle.refusals.specs.declared.refusal.Refusal.{Refusal}
use Rattle.refusals.specs.Refusal.{IsRefusedAs, Checked}
use Rattle.spj_syntax.specs.declared.tree.RawGoal.{RawGoal}
use Rattle.spj_syntax.specs.declared.tree.RawTest.{RawTest}
use Rattle.table_blocks.specs.Tables.{table_named, rows_at, key_at, rows_in, names_in, AreStored}
use Rattle.table_blocks.specs.declared.test.ColumnTest.{ColumnTest}
use Rattle.query_resolve.specs.Names.{columns_at}
use Rattle.query_resolve.specs.Checks.{goal_fault, tests_fault, group_fault}
use Rattle.query_resolve.specs.Resolved.{IsGoalOf, AreTestsOf}
use Rattle.query_resolve.proofs.Members.{refused_first, refused_second, neither}
use Rattle.range_ask.specs.Ranges.{IsAttained}
use Rattle.repair_back.proofs.Naming.{in_map}
use Rattle.reply_text.specs.declared.reply.Reply.{Reply}
use Rattle.session_state.specs.State.{State}
use Rattle.session_state.specs.Replying.{on_table, Replies, IsReplyOutcome}
use Rattle.query_statements.specs.Range.{asked_fault, range_fault, TellsBy, TellsRange}
use Rattle.session_state.proofs.Doing.{refused, on_table-there}

-- a row of a table has a value
some_value : (table : Table) → IsTable table → Contains table.rows [] → ⊥
some_value table is m =
    let same = length-map table.schema.columns (λ column. column.kind) in
    let size = table.schema.kept.size.0 in
    let none = ap length (is.of_schema [] m) in
    omega (arith, same, size, none)

none_empty : (db : List Table) (table : ℕ) → ((t : Table) → Contains db t → IsTable t) → Contains (rows_at db table) [] → ⊥
none_empty [] table each m = absurd (mem-nil [] m)
none_empty (first ∷ db) zero each m = some_value first (each first (mem-head first db)) m
none_empty (first ∷ db) (suc table) each m = none_empty db table (λ t n. each t (mem-tail t first db n)) m

-- a place whose row is stored is one of the table's
inside : (rows : List (List Value)) (p : ℕ) → (Contains rows [] → ⊥) → Contains rows (get_or rows p []) → p < length rows
inside rows p none m = elim (cases_lt p (length rows)) [
  | inl below ↦ below
  | inr past ↦ absurd (none (subst (Contains rows) (get_or_past rows p [] past) m))
]

-- the names of the rows of a repair of a table are those of stored rows
pub repair-stored : (db : List Table) (table : ℕ) (places : List ℕ) → IsDatabase db → table < length db → IsTableRepair (key_at db table) (rows_at db table) (rows_in (rows_at db table) places) → AreStored db (names_in table places)
repair-stored db table places database there repair name m =
    let found = in_map table places name m in
    let rows = rows_at db table in
    let row = get_or rows found.0 [] in
    let kept : Contains (rows_in rows places) row = Contains-map (λ p. get_or rows p []) places found.0 found.1 in
    let is : Contains rows row = sublist-stored (rows_in rows places) rows repair.stored row kept in
    let place = inside rows found.0 (none_empty db table database.each) is in
    subst (λ (n : RowId). (n.table < length db) × (n.place < length (get_or (stored db) n.table []))) (sym found.2) (there, place)

-- so are those of a repair that has the value of an end
pub attained-stored : (db : List Table) (table : ℕ) (goal : Goal) (tests : List ColumnTest) (names : List RowId) (end : End) → IsDatabase db → table < length db → IsAttained db table goal tests names end → AreStored db names
attained-stored db table goal tests names end database there is = subst (AreStored db) (sym is.named) (repair-stored db table is.places database there is.repair)

module _ (old : State) (name : List ℕ) (goal : RawGoal) (tests : List RawTest) (group : Option (List ℕ)) (db : List Table) (tables : db ≡ old.tables) where
  -- a refusal where no table has the name
  pub no_table : (fail : Fail Refusal) → ((check : ℕ → Option Refusal) → IsRefusedAs fail (on_table db name check)) → IsRefusedAs fail (range_fault old.tables name goal tests group)
  no_table fail missing = subst (λ z. IsRefusedAs fail (range_fault z name goal tests group)) tables (missing (asked_fault db goal tests group))

  module _ (table : ℕ) (found : table_named db name ≡ Some table) where
    -- the fault where one has it
    fault_there : range_fault old.tables name goal tests group ≡ asked_fault db goal tests group table
    fault_there = ap (λ z. range_fault z name goal tests group) (sym tables) ∙ on_table-there db name (asked_fault db goal tests group) table found

    -- a refusal by the goal
    pub bad_goal : (fail : Fail Refusal) → IsRefusedAs fail (goal_fault (columns_at db table) goal) → IsRefusedAs fail (range_fault old.tables name goal tests group)
    bad_goal fail is = subst (IsRefusedAs fail) (sym fault_there) (refused_first fail (goal_fault (columns_at db table) goal) _ is)

    module _ (right : goal_fault (columns_at db table) goal ≡ None) where
      -- by the tests
      pub bad_tests : (fail : Fail Refusal) → IsRefusedAs fail (tests_fault db table tests) → IsRefusedAs fail (range_fault old.tables name goal tests group)
      bad_tests fail is =
          subst (IsRefusedAs fail) (sym fault_there) (refused_second fail (goal_fault (columns_at db table) goal) _ right (refused_first fail (tests_fault db table tests) (group_fault (columns_at db table) group) is))

      module _ (resolved : Goal) (goal_is : IsGoalOf (columns_at db table) goal resolved) (pass : tests_fault db table tests ≡ None) (resolved_tests : List ColumnTest) (tests_are : AreTestsOf db table tests resolved_tests) where
        -- what is told of the table is told by the statement
        told_of : (reply : Reply) → TellsBy db table resolved resolved_tests group reply → TellsRange old name goal tests group reply old
        told_of reply tells = record {
          table = table;
          found = subst (λ z. table_named z name ≡ Some table) tables found;
          goal = resolved;
          goal_is = subst (λ z. IsGoalOf (columns_at z table) goal resolved) tables goal_is;
          tests = resolved_tests;
          tests_are = subst (λ z. AreTestsOf z table tests resolved_tests) tables tests_are;
          tells = subst (λ z. TellsBy z table resolved resolved_tests group reply) tables tells;
          keeps = refl;
        }

        -- it is told, or refused by the column of the groups
        pub told_or_refused : (result : Result Reply (Fail Refusal)) → Checked result (group_fault (columns_at db table) group) (TellsBy db table resolved resolved_tests group) →
            IsReplyOutcome result old (Replies (range_fault old.tables name goal tests group) old (TellsRange old name goal tests group)) old
        told_or_refused (Ok reply) checked =
            inr (fault_there ∙ neither (goal_fault (columns_at db table) goal) _ right (neither (tests_fault db table tests) (group_fault (columns_at db table) group) pass checked.valid), told_of reply checked.is)
        told_or_refused (Err fail) checked =
            refused (range_fault old.tables name goal tests group) old old (TellsRange old name goal tests group) refl fail
            (subst (IsRefusedAs fail) (sym fault_there) (refused_second fail (goal_fault (columns_at db table) goal) _ right (refused_second fail (tests_fault db table tests) (group_fault (columns_at db table) group) pass checked.refused)))
