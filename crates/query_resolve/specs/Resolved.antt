-- What schemas, tests, goals, groups and queries are once each name is resolved.
use Rattle.std.specs.Prelude.{◌≡◌, ◌<◌, ℕ, IsTrue, not, true, List, [], length, position, Option, Some, None, IfSome, unwrap_or}
use Rattle.std.specs.List.{AllZip}
use Rattle.cqa_model.specs.declared.schema.Schema.{Schema}
use Rattle.cqa_model.specs.declared.schema.Column.{Column}
use Rattle.cqa_model.specs.declared.query.Query.{Query}
use Rattle.cqa_model.specs.declared.query.Atom.{Atom}
use Rattle.cqa_model.specs.declared.query.ColRef.{ColRef}
use Rattle.cqa_model.specs.declared.query.Cond.{Cond}
use Rattle.cqa_model.specs.declared.query.Cond.TheVariants.{Join, Test}
use Rattle.aggregate_range.specs.declared.aggregate.Goal.{Goal}
use Rattle.aggregate_range.specs.declared.aggregate.Goal.TheVariants as goals
use Rattle.cqa_model.specs.Database.{Table}
use Rattle.cqa_model.specs.Query.{FitsDatabase}
use Rattle.cqa_model.specs.Shape.{nth_atom}
use Rattle.cqa_model.specs.Unions.{AreParts}
use Rattle.spj_syntax.specs.declared.tree.RawSchema.{RawSchema}
use Rattle.spj_syntax.specs.declared.tree.RawTest.{RawTest}
use Rattle.spj_syntax.specs.declared.tree.RawGoal.{RawGoal}
use Rattle.spj_syntax.specs.declared.tree.RawGoal.TheVariants as written
use Rattle.spj_syntax.specs.declared.tree.RawJoinGoal.{RawJoinGoal}
use Rattle.spj_syntax.specs.declared.tree.RawJoinGoal.TheVariants as join_goals
use Rattle.spj_syntax.specs.declared.tree.RawRange.{RawRange}
use Rattle.spj_syntax.specs.declared.tree.RawCol.{RawCol}
use Rattle.spj_syntax.specs.declared.tree.RawCond.{RawCond}
use Rattle.spj_syntax.specs.declared.tree.RawCond.TheVariants.{Join as WrittenJoin, Test as WrittenTest}
use Rattle.spj_syntax.specs.declared.tree.Select.{Select}
use Rattle.table_blocks.specs.declared.test.ColumnTest.{ColumnTest}
use Rattle.table_blocks.specs.Tables.{table_named, key_at, mark_at}
use Rattle.query_resolve.specs.declared.range.RangeQuery.{RangeQuery}
use Rattle.query_resolve.specs.Names.{name_place, column_named, has_column, columns_at, atom_columns}

-- one place for each name, in order: that of the column so named
abbrev pub ArePlacesOf : List Column → List (List ℕ) → List ℕ → Type 0
ArePlacesOf columns names places = AllZip (λ name place. column_named columns name ≡ Some place) names places

-- the key's places are those of the columns that it names; all else is kept
pub record IsSchemaOf (raw : RawSchema) (schema : Schema) : Type 0 where
  pub name : schema.name ≡ raw.name
  pub columns : schema.columns ≡ raw.columns
  pub key : ArePlacesOf raw.columns raw.key schema.key
  pub strict : schema.strict ≡ raw.strict

-- the key of an `alter`: the places of the table's columns that it names
abbrev pub IsKeyOf : List Table → ℕ → List (List ℕ) → List ℕ → Type 0
IsKeyOf db table names key = ArePlacesOf (columns_at db table) names key

-- the test's column has its place among these; all else is kept
pub record IsTestOf (columns : List Column) (raw : RawTest) (test : ColumnTest) : Type 0 where
  pub col : column_named columns raw.col ≡ Some test.col
  pub op : test.op ≡ raw.op
  pub value : test.value ≡ raw.value

-- one test for each, in order
abbrev pub AreTestsOf : List Table → ℕ → List RawTest → List ColumnTest → Type 0
AreTestsOf db table raw tests = AllZip (IsTestOf (columns_at db table)) raw tests

-- the goal's column has its place among these; what is asked of it is kept
abbrev pub IsGoalOf : List Column → RawGoal → Goal → Type 0
IsGoalOf columns written.Count goals.Count = Unit {0}
IsGoalOf columns (written.Sum name) (goals.Sum col) = column_named columns name ≡ Some col
IsGoalOf columns (written.Min name) (goals.Min col) = column_named columns name ≡ Some col
IsGoalOf columns (written.Max name) (goals.Max col) = column_named columns name ≡ Some col
IsGoalOf columns raw goal = ⊥

-- the column by whose values rows are grouped has its place among these, where one is named
abbrev pub IsGroupOf : List Column → Option (List ℕ) → Option ℕ → Type 0
IsGroupOf columns None None = Unit {0}
IsGroupOf columns (Some name) (Some col) = column_named columns name ≡ Some col
IsGroupOf columns name col = ⊥

-- the atom of a name: the place, the width, the key and the mark of the table so named
pub record IsAtomOf (db : List Table) (name : List ℕ) (atom : Atom) : Type 0 where
  pub table : table_named db name ≡ Some atom.table
  pub width : atom.width ≡ length (columns_at db atom.table)
  pub key : atom.key ≡ key_at db atom.table
  pub mark : atom.strict ≡ mark_at db atom.table

-- the atom of a column: that of the table where it is written, else the only one whose table has the column
abbrev pub IsAtomFor : List Table → List (List ℕ) → Option (List ℕ) → List ℕ → ℕ → Type 0
IsAtomFor db names None name atom = (other : ℕ) → IsTrue (has_column (atom_columns db names other) name) → other ≡ atom
IsAtomFor db names (Some table) name atom = name_place names table ≡ Some atom

-- the atom and the place of a written column
pub record IsColumnOf (db : List Table) (names : List (List ℕ)) (written : RawCol) (col : ColRef) : Type 0 where
  pub atom : IsAtomFor db names written.table written.name col.atom
  pub place : column_named (atom_columns db names col.atom) written.name ≡ Some col.col

-- a condition with its columns resolved; the operator and the literal are kept
abbrev pub IsCondOf : List Table → List (List ℕ) → RawCond → Cond → Type 0
IsCondOf db names (WrittenJoin left right) (Join l r) = IsColumnOf db names left l × IsColumnOf db names right r
IsCondOf db names (WrittenJoin left right) (Test c op value) = ⊥
IsCondOf db names (WrittenTest col op value) (Join l r) = ⊥
IsCondOf db names (WrittenTest col op value) (Test c o v) = IsColumnOf db names col c × (o ≡ op) × (v ≡ value)

-- one atom for each name, one condition for each written one, one answer column for each selected one, all in order
pub record IsQueryOf (db : List Table) (select : Select) (query : Query) : Type 0 where
  pub atoms : AllZip (IsAtomOf db) select.tables query.atoms
  pub conds : AllZip (IsCondOf db select.tables) select.conds query.conds
  pub answer : AllZip (IsColumnOf db select.tables) select.columns query.answer
  pub fits : FitsDatabase query db

-- the parts of a union: one query for each written one, in order
pub record AreQueriesOf (db : List Table) (selects : List Select) (queries : List Query) : Type 0 where
  pub each : AllZip (IsQueryOf db) selects queries
  pub parts : AreParts queries db

-- the column of a goal over several tables is that of an atom, at a place; what is asked of it is kept, and a count has the first atom
abbrev pub IsJoinGoalOf : List Table → List (List ℕ) → RawJoinGoal → Goal → ℕ → Type 0
IsJoinGoalOf db names join_goals.Count goals.Count atom = atom ≡ 0
IsJoinGoalOf db names (join_goals.Sum col) (goals.Sum place) atom = IsColumnOf db names col (record { atom = atom; col = place })
IsJoinGoalOf db names (join_goals.Min col) (goals.Min place) atom = IsColumnOf db names col (record { atom = atom; col = place })
IsJoinGoalOf db names (join_goals.Max col) (goals.Max place) atom = IsColumnOf db names col (record { atom = atom; col = place })
IsJoinGoalOf db names raw goal atom = ⊥

-- the first atom whose table isn't strict, or the first one
abbrev pub lax_of : List Atom → ℕ
lax_of atoms = unwrap_or (position (λ (atom : Atom). not atom.strict) atoms) 0

-- the column by whose values witnesses are grouped is one of an atom, where one is named
abbrev pub IsJoinGroupOf : List Table → List (List ℕ) → Option RawCol → Option ColRef → Type 0
IsJoinGroupOf db names None None = Unit {0}
IsJoinGroupOf db names (Some col) (Some found) = IsColumnOf db names col found
IsJoinGroupOf db names col found = ⊥

-- a query with no answer column, with the goal and the column of the groups over its atoms; the tables of all atoms but one are
-- strict
pub record IsRangeOf (db : List Table) (raw : RawRange) (range : RangeQuery) : Type 0 where
  pub atoms : AllZip (IsAtomOf db) raw.tables range.query.atoms
  pub conds : AllZip (IsCondOf db raw.tables) raw.conds range.query.conds
  pub answer : range.query.answer ≡ []
  pub goal : IsJoinGoalOf db raw.tables raw.goal range.goal range.atom
  pub goal_inside : range.atom < length range.query.atoms
  pub group : IsJoinGroupOf db raw.tables raw.group range.group
  pub group_inside : IfSome range.group (λ col. col.atom < length range.query.atoms)
  pub inside : range.lax < length range.query.atoms
  pub strict : (atom : ℕ) → atom < length range.query.atoms → (atom ≡ range.lax → ⊥) → (nth_atom range.query.atoms atom).strict ≡ true
  pub fits : FitsDatabase range.query db
