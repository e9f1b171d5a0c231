-- Names are resolved where no check of them fails.
use Rattle.std.specs.Prelude.{◌≡◌, ◌≤◌, ℕ, List, length, Option, None}
use Rattle.aggregate_range.specs.declared.aggregate.Goal.{Goal}
use Rattle.cqa_model.specs.declared.query.Query.{Query}
use Rattle.cqa_model.specs.declared.schema.Column.{Column}
use Rattle.cqa_model.specs.declared.schema.Schema.{Schema}
use Rattle.cqa_model.specs.Database.{Table, IsDatabase}
use Rattle.spj_syntax.specs.declared.tree.RawGoal.{RawGoal}
use Rattle.spj_syntax.specs.declared.tree.RawRange.{RawRange}
use Rattle.spj_syntax.specs.declared.tree.RawSchema.{RawSchema}
use Rattle.spj_syntax.specs.declared.tree.RawTest.{RawTest}
use Rattle.spj_syntax.specs.declared.tree.Select.{Select}
use Rattle.table_blocks.specs.declared.test.ColumnTest.{ColumnTest}
use Rattle.query_resolve.specs.declared.range.RangeQuery.{RangeQuery}
use Rattle.query_resolve.specs.Checks.{schema_fault, new_key_fault, tests_fault, goal_fault, group_fault, query_fault, union_fault, range_join_fault}
use Rattle.query_resolve.specs.Resolved.{IsSchemaOf, IsKeyOf, AreTestsOf, IsGoalOf, IsGroupOf, IsQueryOf, AreQueriesOf, IsRangeOf}

-- The law: a schema of which no check fails is one whose key is made of its columns.
abbrev pub SchemasAreResolved : Type 0
SchemasAreResolved = (db : List Table) (raw : RawSchema) → schema_fault db raw ≡ None → (schema : Schema) × IsSchemaOf raw schema

-- The law: names of a key of which no check fails are columns of the table.
abbrev pub KeysAreResolved : Type 0
KeysAreResolved = (db : List Table) (table : ℕ) (names : List (List ℕ)) → new_key_fault db table names ≡ None → (key : List ℕ) × IsKeyOf db table names key

-- The law: tests of which no check fails are tests of the table's columns.
abbrev pub TestsAreResolved : Type 0
TestsAreResolved = (db : List Table) (table : ℕ) (raw : List RawTest) → tests_fault db table raw ≡ None → (tests : List ColumnTest) × AreTestsOf db table raw tests

-- The law: a goal of which no check fails is one of these columns.
abbrev pub GoalsAreResolved : Type 0
GoalsAreResolved = (columns : List Column) (raw : RawGoal) → goal_fault columns raw ≡ None → (goal : Goal) × IsGoalOf columns raw goal

-- The law: the name of a group of which no check fails is one of these columns.
abbrev pub GroupsAreResolved : Type 0
GroupsAreResolved = (columns : List Column) (name : Option (List ℕ)) → group_fault columns name ≡ None → (col : Option ℕ) × IsGroupOf columns name col

-- The law: a query of which no check fails is one that fits the database.
abbrev pub QueriesAreResolved : Type 0
QueriesAreResolved = (db : List Table) (select : Select) → IsDatabase db → query_fault db select ≡ None → (q : Query) × IsQueryOf db select q

-- The law: a union of which no check fails has parts that fit the database.
abbrev pub UnionsAreResolved : Type 0
UnionsAreResolved = (db : List Table) (selects : List Select) → IsDatabase db → 2 ≤ length selects → union_fault db selects ≡ None → (parts : List Query) × AreQueriesOf db selects parts

-- The law: a range over several tables of which no check fails is one of a query that fits the database.
abbrev pub RangesAreResolved : Type 0
RangesAreResolved = (db : List Table) (raw : RawRange) → IsDatabase db → range_join_fault db raw ≡ None → (range : RangeQuery) × IsRangeOf db raw range
