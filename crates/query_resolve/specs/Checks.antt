-- The first failing check of a schema, of the key of an `alter`, of the tests of rows, of the goal and the groups of a `range`, of
-- a query, of a `range` over several tables, and of a union.
use Rattle.std.specs.Prelude.{ℕ, ◌+◌, Bool, nat_lt, nat_le, ◌==◌, not, ◌&&◌, ◌||◌, if◌then◌else◌, List, [], ◌∷◌, ◌++◌, length, map, Option, Some, None, is_some, is_none, slice_index_or}
use Rattle.std.specs.List.{list_all, zip}
use Rattle.cqa_value.specs.declared.value.Kind.{Kind}
use Rattle.cqa_value.specs.declared.value.Kind.TheVariants as kinds
use Rattle.cqa_value.specs.declared.value.Value.{Value}
use Rattle.cqa_value.specs.Values.{kind_of}
use Rattle.cqa_model.specs.declared.schema.Column.{Column}
use Rattle.refusals.specs.declared.refusal.Refusal.{Refusal}
use Rattle.refusals.specs.declared.refusal.Refusal.TheVariants.{UnknownTable, TableExists, UnknownColumn, AmbiguousColumn, SelfJoin, TypeMismatch, WrongArity, DuplicateColumn, BadKey, Limit, NotStrict}
use Rattle.refusals.specs.declared.refusal.Place.TheVariants.{Condition, Cell}
use Rattle.refusals.specs.declared.refusal.LimitKind.TheVariants.{Tables, Columns, Atoms, Answer, Selects}
use Rattle.cqa_value.specs.declared.row.TheConstants.{MOST_COLUMNS}
use Rattle.cqa_model.specs.declared.limits.TheConstants.{MOST_TABLES, MOST_ATOMS, MOST_ANSWER_COLUMNS, MOST_SELECTS}
use Rattle.cqa_model.specs.Database.{Table}
use Rattle.spj_syntax.specs.declared.tree.RawSchema.{RawSchema}
use Rattle.spj_syntax.specs.declared.tree.RawTest.{RawTest}
use Rattle.spj_syntax.specs.declared.tree.RawGoal.{RawGoal}
use Rattle.spj_syntax.specs.declared.tree.RawGoal.TheVariants as goals
use Rattle.spj_syntax.specs.declared.tree.RawJoinGoal.{RawJoinGoal}
use Rattle.spj_syntax.specs.declared.tree.RawJoinGoal.TheVariants as join_goals
use Rattle.spj_syntax.specs.declared.tree.RawRange.{RawRange}
use Rattle.spj_syntax.specs.declared.tree.RawCol.{RawCol}
use Rattle.spj_syntax.specs.declared.tree.RawCond.{RawCond}
use Rattle.spj_syntax.specs.declared.tree.RawCond.TheVariants.{Join, Test}
use Rattle.spj_syntax.specs.declared.tree.Select.{Select}
use Rattle.cqa_model.specs.declared.query.Query.{Query}
use Rattle.cqa_model.specs.Query.{kind_at}
use Rattle.refusals.specs.Refusal.{first_of}
use Rattle.table_blocks.specs.Tables.{table_named}
use Rattle.refusals.specs.Kinds.{same_kind, row_fault}
use Rattle.query_resolve.specs.Names.{name_place, has_column, kind_named, columns_at, columns_named, strict_named, owners}

-- the refusal of a check that fails
abbrev pub fault_unless : Bool → Refusal → Option Refusal
fault_unless passes refusal = if passes then None else Some refusal

-- the first fault of a list's members, each checked after those before it
abbrev pub first_fault : {A : Type 0} → (List A → A → Option Refusal) → List A → List A → Option Refusal
first_fault check before [] = None
first_fault check before (x ∷ xs) = first_of (check before x) (first_fault check (before ++ x ∷ []) xs)

-- a check by a member's number, from 1
abbrev pub fault_by_number : {A : Type 0} → (ℕ → A → Option Refusal) → List A → A → Option Refusal
fault_by_number check before x = check (length before + 1) x

-- two kinds are one, in the condition of a number
abbrev pub kinds_fault : ℕ → Kind → Kind → Option Refusal
kinds_fault number a b = fault_unless (same_kind a b) (TypeMismatch (Condition number))

-- a table can be made: its name is free, fewer than `MOST_TABLES` tables are there, and it has at most `MOST_COLUMNS` columns
abbrev pub table_fault : List Table → RawSchema → Option Refusal
table_fault db raw =
    first_of (fault_unless (is_none (table_named db raw.name)) (TableExists raw.name))
    (first_of (fault_unless (nat_lt (length db) MOST_TABLES) (Limit Tables)) (fault_unless (nat_le (length raw.columns) MOST_COLUMNS) (Limit Columns)))

-- no column before has the name
abbrev pub duplicate_fault : List Column → Column → Option Refusal
duplicate_fault before column = fault_unless (not (has_column before column.name)) (DuplicateColumn column.name)

-- a name of the key is a column and hasn't stood before
abbrev pub key_fault : List Column → List (List ℕ) → List ℕ → Option Refusal
key_fault columns before name = fault_unless (has_column columns name && is_none (name_place before name)) (BadKey name)

-- each name of a key is a column and hasn't stood before
abbrev pub names_fault : List Column → List (List ℕ) → Option Refusal
names_fault columns names = first_fault (key_fault columns) [] names

abbrev pub schema_fault : List Table → RawSchema → Option Refusal
schema_fault db raw = first_of (table_fault db raw) (first_of (first_fault duplicate_fault [] raw.columns) (names_fault raw.columns raw.key))

-- the key of an `alter` names columns of the table
abbrev pub new_key_fault : List Table → ℕ → List (List ℕ) → Option Refusal
new_key_fault db table names = names_fault (columns_at db table) names

-- a column of the name is there
abbrev pub known_fault : List Column → List ℕ → Option Refusal
known_fault columns name = fault_unless (has_column columns name) (UnknownColumn None name)

-- the column of the test of a number is there and has the literal's kind
abbrev pub test_fault : List Column → ℕ → RawTest → Option Refusal
test_fault columns number test = first_of (known_fault columns test.col) (kinds_fault number (kind_named columns test.col) (kind_of test.value))

abbrev pub tests_fault : List Table → ℕ → List RawTest → Option Refusal
tests_fault db table tests = first_fault (fault_by_number (test_fault (columns_at db table))) [] tests

-- the column of a goal is there, and that of a sum is one of integers: else it is refused with the number 0, since tests have
-- those from 1
abbrev pub goal_fault : List Column → RawGoal → Option Refusal
goal_fault columns goals.Count = None
goal_fault columns (goals.Sum name) = first_of (known_fault columns name) (kinds_fault 0 (kind_named columns name) kinds.Int)
goal_fault columns (goals.Min name) = known_fault columns name
goal_fault columns (goals.Max name) = known_fault columns name

-- the column by whose values rows are grouped, where one is named, is there
abbrev pub group_fault : List Column → Option (List ℕ) → Option Refusal
group_fault columns None = None
group_fault columns (Some name) = known_fault columns name

-- a query's table is there, and the query hasn't named it before
abbrev pub from_fault : List Table → List (List ℕ) → List ℕ → Option Refusal
from_fault db before name = first_of (fault_unless (is_some (table_named db name)) (UnknownTable name)) (fault_unless (is_none (name_place before name)) (SelfJoin name))

-- exactly one table has a column that is written without a table
abbrev pub owner_fault : List (List Column) → List ℕ → Option Refusal
owner_fault [] name = Some (UnknownColumn None name)
owner_fault (owner ∷ []) name = None
owner_fault (owner ∷ other ∷ more) name = Some (AmbiguousColumn name)

-- a column's table, where it is written, is one of the query's and has the column
abbrev pub column_fault : List Table → List (List ℕ) → Option (List ℕ) → List ℕ → Option Refusal
column_fault db names None name = owner_fault (owners db names name) name
column_fault db names (Some table) name =
    first_of (fault_unless (is_some (name_place names table)) (UnknownTable table)) (fault_unless (has_column (columns_named db table) name) (UnknownColumn (Some table) name))

-- the columns of the table that a column is of
abbrev pub table_of : List Table → List (List ℕ) → Option (List ℕ) → List ℕ → List Column
table_of db names None name = slice_index_or (owners db names name) 0 []
table_of db names (Some table) name = columns_named db table

abbrev pub column_kind : List Table → List (List ℕ) → RawCol → Kind
column_kind db names col = kind_named (table_of db names col.table col.name) col.name

-- the columns of a condition are there, and its two sides have one kind
abbrev pub cond_fault : List Table → List (List ℕ) → ℕ → RawCond → Option Refusal
cond_fault db names number (Join left right) =
    first_of (column_fault db names left.table left.name) (first_of (column_fault db names right.table right.name) (kinds_fault number (column_kind db names left) (column_kind db names right)))
cond_fault db names number (Test col op value) = first_of (column_fault db names col.table col.name) (kinds_fault number (column_kind db names col) (kind_of value))

-- a query names at most `MOST_ATOMS` tables and `MOST_ANSWER_COLUMNS` columns
abbrev pub size_fault : Select → Option Refusal
size_fault select = first_of (fault_unless (nat_le (length select.tables) MOST_ATOMS) (Limit Atoms)) (fault_unless (nat_le (length select.columns) MOST_ANSWER_COLUMNS) (Limit Answer))

-- the checks of the columns that a query selects, and of its conditions
abbrev pub select_fault : List Table → List (List ℕ) → List RawCol → Option Refusal
select_fault db names columns = first_fault (λ before (col : RawCol). column_fault db names col.table col.name) [] columns

abbrev pub where_fault : List Table → List (List ℕ) → List RawCond → Option Refusal
where_fault db names conds = first_fault (fault_by_number (cond_fault db names)) [] conds

abbrev pub query_fault : List Table → Select → Option Refusal
query_fault db select =
    first_of (size_fault select)
    (first_of (first_fault (from_fault db) [] select.tables) (first_of (select_fault db select.tables select.columns) (where_fault db select.tables select.conds)))

-- a range over several tables names at most `MOST_ATOMS` of them
abbrev pub tables_fault : List (List ℕ) → Option Refusal
tables_fault names = fault_unless (nat_le (length names) MOST_ATOMS) (Limit Atoms)

-- the column of a goal over several tables is there, and that of a sum is one of integers: else it is refused with the number 0,
-- since conditions have those from 1
abbrev pub join_goal_fault : List Table → List (List ℕ) → RawJoinGoal → Option Refusal
join_goal_fault db names join_goals.Count = None
join_goal_fault db names (join_goals.Sum col) = first_of (column_fault db names col.table col.name) (kinds_fault 0 (column_kind db names col) kinds.Int)
join_goal_fault db names (join_goals.Min col) = column_fault db names col.table col.name
join_goal_fault db names (join_goals.Max col) = column_fault db names col.table col.name

-- a table is strict, or those before it are
abbrev pub lax_fault : List Table → List (List ℕ) → List ℕ → Option Refusal
lax_fault db before name = fault_unless (strict_named db name || list_all (strict_named db) before) (NotStrict name)

-- the column by whose values witnesses are grouped, where one is named, is there
abbrev pub join_group_fault : List Table → List (List ℕ) → Option RawCol → Option Refusal
join_group_fault db names None = None
join_group_fault db names (Some col) = column_fault db names col.table col.name

-- a range over several tables: its tables, its goal, its conditions and the column of its groups; and then that all tables are
-- strict but for one at most
abbrev pub range_join_fault : List Table → RawRange → Option Refusal
range_join_fault db range =
    first_of (tables_fault range.tables)
    (first_of (first_fault (from_fault db) [] range.tables)
    (first_of (join_goal_fault db range.tables range.goal)
    (first_of (where_fault db range.tables range.conds)
    (first_of (join_group_fault db range.tables range.group) (first_fault (lax_fault db) [] range.tables)))))

-- the kinds of a query's answer columns
abbrev pub answer_kinds : List Table → Query → List Kind
answer_kinds db q = map (kind_at q db) q.answer

-- the row of an `explain` has a value for each answer column, of the column's kind
abbrev pub answer_fault : List Table → Query → List Value → Option Refusal
answer_fault db q row = row_fault (answer_kinds db q) 1 row

-- the kinds of the columns that a query selects
abbrev pub select_kinds : List Table → Select → List Kind
select_kinds db select = map (column_kind db select.tables) select.columns

-- an answer column of the part of a number has the kind of the first part's column
abbrev pub kinds_clash : ℕ → ℕ → Kind × Kind → Option Refusal
kinds_clash part column (first, kind) = fault_unless (same_kind first kind) (TypeMismatch (Cell part column))

-- the part of a number has as many answer columns as the first part, and of the same kinds
abbrev pub part_fault : List Kind → ℕ → List Kind → Option Refusal
part_fault first part kinds = first_of (fault_unless (length kinds == length first) (WrongArity part)) (first_fault (fault_by_number (kinds_clash part)) [] (zip first kinds))

-- each part from the second on, by the kinds of its answer columns, has answers like the first
abbrev pub answers_fault : List (List Kind) → Option Refusal
answers_fault [] = None
answers_fault (first ∷ others) = first_fault (fault_by_number (part_fault first)) (first ∷ []) others

-- a union has at most `MOST_SELECTS` parts, each of them passes the checks of a query, and then they have answers like the first
abbrev pub union_fault : List Table → List Select → Option Refusal
union_fault db selects =
    first_of (fault_unless (nat_le (length selects) MOST_SELECTS) (Limit Selects))
    (first_of (first_fault (λ before select. query_fault db select) [] selects) (answers_fault (map (select_kinds db) selects)))

-- the row of an `explain` of a union is checked against the first part
abbrev pub union_row_fault : List Table → List Query → List Value → Option Refusal
union_row_fault db [] row = None
union_row_fault db (first ∷ others) row = answer_fault db first row
