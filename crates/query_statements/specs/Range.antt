-- `range`
use Rattle.std.specs.Prelude.{◌≡◌, ℕ, List, map, Option, Some, None}
use Rattle.aggregate_range.specs.declared.aggregate.Goal.{Goal}
use Rattle.cqa_model.specs.declared.query.RowId.{RowId}
use Rattle.cqa_model.specs.Database.{Table}
use Rattle.refusals.specs.declared.refusal.Refusal.{Refusal}
use Rattle.refusals.specs.Refusal.{first_of}
use Rattle.spj_syntax.specs.declared.tree.RawGoal.{RawGoal}
use Rattle.spj_syntax.specs.declared.tree.RawTest.{RawTest}
use Rattle.table_blocks.specs.declared.test.ColumnTest.{ColumnTest}
use Rattle.table_blocks.specs.Tables.{table_named}
use Rattle.query_resolve.specs.Names.{columns_at}
use Rattle.query_resolve.specs.Checks.{goal_fault, tests_fault, group_fault}
use Rattle.query_resolve.specs.Resolved.{IsGoalOf, AreTestsOf, IsGroupOf}
use Rattle.range_ask.specs.declared.groups.Group.{Group}
use Rattle.range_ask.specs.declared.range.Range.{Range}
use Rattle.range_ask.specs.Groups.{AreGroups}
use Rattle.range_ask.specs.Ranges.{IsRange}
use Rattle.repair_back.specs.Results.{contested_of}
use Rattle.reply_text.specs.declared.reply.GroupEnds.{GroupEnds}
use Rattle.reply_text.specs.declared.reply.KeptRow.{KeptRow}
use Rattle.reply_text.specs.declared.reply.Reply.{Reply}
use Rattle.reply_text.specs.declared.reply.Reply.TheVariants as replies
use Rattle.session_state.specs.State.{State}
use Rattle.session_state.specs.Replying.{on_table}
use Rattle.query_replies.specs.Kept.{kept_line}

-- the checks of the goal, then those of the tests, and then that of the column by whose values rows are grouped
abbrev pub asked_fault : List Table → RawGoal → List RawTest → Option (List ℕ) → ℕ → Option Refusal
asked_fault db goal tests group table = first_of (goal_fault (columns_at db table) goal) (first_of (tests_fault db table tests) (group_fault (columns_at db table) group))

-- the table is there, and then these checks
abbrev pub range_fault : List Table → List ℕ → RawGoal → List RawTest → Option (List ℕ) → Option Refusal
range_fault db name goal tests group = on_table db name (asked_fault db goal tests group)

-- the lines of the rows that a repair keeps of blocks of two or more rows
abbrev pub chosen_lines : List Table → List RowId → List KeptRow
chosen_lines db names = map (kept_line db) (contested_of db names)

-- The reply tells the least and the greatest value that an aggregate has in a repair of a table, each with the rows that a
-- repair which has it keeps of blocks of two or more rows.
pub record TellsEnds (db : List Table) (table : ℕ) (goal : Goal) (tests : List ColumnTest) (reply : Reply) : Type 0 where
  pub range : Range
  pub is : IsRange db table goal tests range
  pub replies : reply ≡ replies.Range range.least (chosen_lines db range.low) range.greatest (chosen_lines db range.high)

-- the line of a group
abbrev pub group_line : Group → GroupEnds
group_line group = record { value = group.value; least = group.least; greatest = group.greatest }

-- The reply tells both ends for each group: for each value that a row of the table which meets the tests has in a column.
pub record TellsGroups (db : List Table) (table : ℕ) (goal : Goal) (tests : List ColumnTest) (col : ℕ) (reply : Reply) : Type 0 where
  pub groups : List Group
  pub are : AreGroups db table goal tests col groups
  pub replies : reply ≡ replies.Groups (map group_line groups)

-- both ends over all rows, or for each group of them
abbrev pub TellsOf : List Table → ℕ → Goal → List ColumnTest → Option ℕ → Reply → Type 0
TellsOf db table goal tests None reply = TellsEnds db table goal tests reply
TellsOf db table goal tests (Some col) reply = TellsGroups db table goal tests col reply

-- both ends over all rows, or for each group by the column of the name, where one is named
pub record TellsBy (db : List Table) (table : ℕ) (goal : Goal) (tests : List ColumnTest) (group : Option (List ℕ)) (reply : Reply) : Type 0 where
  pub col : Option ℕ
  pub col_is : IsGroupOf (columns_at db table) group col
  pub tells : TellsOf db table goal tests col reply

-- The reply tells both ends for the table of the name, and nothing has changed.
pub record TellsRange (old : State) (name : List ℕ) (raw_goal : RawGoal) (raw_tests : List RawTest) (group : Option (List ℕ)) (reply : Reply) (new : State) : Type 0 where
  pub table : ℕ
  pub found : table_named old.tables name ≡ Some table
  pub goal : Goal
  pub goal_is : IsGoalOf (columns_at old.tables table) raw_goal goal
  pub tests : List ColumnTest
  pub tests_are : AreTestsOf old.tables table raw_tests tests
  pub tells : TellsBy old.tables table goal tests group reply
  pub keeps : new ≡ old
