-- Members of lists of which no check fails: columns of a schema, of a key, of tests, of a goal and of its groups.
use Rattle.std.proofs.Common.{◌≡◌, ℕ, List, [], ◌∷◌, ◌++◌, Option, Some, None, true, refl}
use Rattle.std.specs.List.{AllZip}
use Rattle.std.specs.Option.{is_none}
use Rattle.std.proofs.lemmas.Bool.{and_parts}
use Rattle.cqa_value.specs.declared.value.Kind.TheVariants.{Int}
use Rattle.cqa_value.specs.Values.{kind_of}
use Rattle.aggregate_range.specs.declared.aggregate.Goal.TheVariants as goals
use Rattle.cqa_model.specs.declared.schema.Column.{Column}
use Rattle.refusals.specs.declared.refusal.Refusal.{Refusal}
use Rattle.refusals.specs.declared.refusal.Refusal.TheVariants.{BadKey, UnknownColumn}
use Rattle.refusals.specs.Refusal.{first_of}
use Rattle.refusals.proofs.Faults.{both_none}
use Rattle.spj_syntax.specs.declared.tree.RawGoal.TheVariants as written
use Rattle.spj_syntax.specs.declared.tree.RawTest.{RawTest}
use Rattle.table_blocks.specs.declared.test.ColumnTest.{ColumnTest}
use Rattle.query_resolve.specs.Names.{name_place, column_named, has_column, kind_named, columns_at}
use Rattle.query_resolve.specs.Checks.{first_fault, fault_by_number, duplicate_fault, key_fault, names_fault, known_fault, kinds_fault, table_fault, test_fault}
use Rattle.query_resolve.specs.Resolved.{ArePlacesOf, IsTestOf}
use Rattle.query_resolve.proofs.Lookups.{passes, some_is}
use Rattle.query_resolve.proofs.Schemas.{kept_schema}
use Rattle.reading_law.specs.Names.{SchemasAreResolved, KeysAreResolved, TestsAreResolved, GoalsAreResolved, GroupsAreResolved}

-- where each member that passes its check stands for something, a list without a fault stands for a list
pub all_resolved : {A B : Type 0} (check : List A → A → Option Refusal) (R : A → B → Type 0) → ((before : List A) (x : A) → check before x ≡ None → (y : B) × R x y)
    → (before xs : List A) → first_fault check before xs ≡ None → (ys : List B) × AllZip R xs ys
all_resolved check R one before [] e = ([], tt)
all_resolved check R one before (x ∷ xs) e =
    let both = both_none (check before x) (first_fault check (before ++ x ∷ []) xs) e in
    let here = one before x both.0 in
    let rest = all_resolved check R one (before ++ x ∷ []) xs both.1 in
    (here.0 ∷ rest.0, (here.1, rest.1))

-- a column that is there has a place
pub column_place : (columns : List Column) (name : List ℕ) → has_column columns name ≡ true → (col : ℕ) × (column_named columns name ≡ Some col)
column_place columns name e = some_is (column_named columns name) e

known : (columns : List Column) (name : List ℕ) → known_fault columns name ≡ None → (col : ℕ) × (column_named columns name ≡ Some col)
known columns name e = column_place columns name (passes (has_column columns name) (UnknownColumn None name) e)

-- the places of a key's names
places : (columns : List Column) (names : List (List ℕ)) → names_fault columns names ≡ None → (key : List ℕ) × ArePlacesOf columns names key
places columns names e =
    all_resolved (key_fault columns) (λ name place. column_named columns name ≡ Some place)
    (λ before name h. column_place columns name (and_parts (has_column columns name) (is_none (name_place before name)) (passes _ (BadKey name) h)).0) [] names e

pub keys_are_resolved : KeysAreResolved
keys_are_resolved db table names e = places (columns_at db table) names e

pub schemas_are_resolved : SchemasAreResolved
schemas_are_resolved db raw e =
    let one = both_none (table_fault db raw) (first_of (first_fault duplicate_fault [] raw.columns) (names_fault raw.columns raw.key)) e in
    let two = both_none (first_fault duplicate_fault [] raw.columns) (names_fault raw.columns raw.key) one.1 in
    let key = places raw.columns raw.key two.1 in
    let kept = kept_schema db raw raw.columns raw.columns raw.columns raw.key key.0 refl refl refl refl raw.some_column raw.some_key one.0 two.0 two.1 key.1 in
    (record { name = raw.name; columns = raw.columns; key = key.0; strict = raw.strict; kept = kept }, record { name = refl; columns = refl; key = key.1; strict = refl })

test_resolved : (columns : List Column) (number : ℕ) (raw : RawTest) → test_fault columns number raw ≡ None → (test : ColumnTest) × IsTestOf columns raw test
test_resolved columns number raw e =
    let col = known columns raw.col (both_none (known_fault columns raw.col) (kinds_fault number (kind_named columns raw.col) (kind_of raw.value)) e).0 in
    (record { col = col.0; op = raw.op; value = raw.value }, record { col = col.1; op = refl; value = refl })

pub tests_are_resolved : TestsAreResolved
tests_are_resolved db table raw e =
    all_resolved (fault_by_number (test_fault (columns_at db table))) (IsTestOf (columns_at db table)) (λ before test h. test_resolved (columns_at db table) _ test h) [] raw e

pub goals_are_resolved : GoalsAreResolved
goals_are_resolved columns written.Count e = (goals.Count, tt)
goals_are_resolved columns (written.Sum name) e = let col = known columns name (both_none (known_fault columns name) (kinds_fault 0 (kind_named columns name) Int) e).0 in (goals.Sum col.0, col.1)
goals_are_resolved columns (written.Min name) e = let col = known columns name e in (goals.Min col.0, col.1)
goals_are_resolved columns (written.Max name) e = let col = known columns name e in (goals.Max col.0, col.1)

pub groups_are_resolved : GroupsAreResolved
groups_are_resolved columns None e = (None, tt)
groups_are_resolved columns (Some name) e = let col = known columns name e in (Some col.0, col.1)
