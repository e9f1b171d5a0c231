-- Schemas that pass their checks.
use Rattle.std.proofs.Common.{◌≡◌, ℕ, ◌<◌, ◌≤◌, List, [], length, take, get_or, Contains, Some, None, true, nat_le, nat_lt, is_none, Result, Ok, Err, IfOk, sym, ap, ◌∙◌, subst, arith}
use Rattle.std.proofs.lemmas.Bool.Decides.{nat_tests}
use Rattle.std.specs.List.{AllZip}
use Rattle.std.proofs.lemmas.Bool.{and_parts}
use Rattle.cqa_value.specs.declared.value.Kind.TheVariants.{Int}
use Rattle.cqa_model.specs.declared.schema.Column.{Column}
use Rattle.refusals.specs.declared.refusal.Refusal.TheVariants.{TableExists, DuplicateColumn, BadKey, Limit}
use Rattle.refusals.specs.declared.refusal.LimitKind.TheVariants.{Tables, Columns}
use Rattle.cqa_model.specs.Database.{Table, names_of}
use Rattle.cqa_model.specs.Shape.{AreDistinct, IsSchema, column_at}
use Rattle.spj_syntax.specs.declared.tree.RawSchema.{RawSchema}
use Rattle.cqa_value.specs.declared.memory.Fail.{Fail}
use Rattle.refusals.specs.declared.refusal.Refusal.{Refusal}
use Rattle.refusals.specs.Refusal.{first_of, Checked}
use Rattle.table_blocks.specs.Keys.{IsKey}
use Rattle.table_blocks.specs.Tables.{table_named, kinds_at}
use Rattle.refusals.proofs.Faults.{both_none}
use Rattle.query_resolve.specs.Names.{name_place, column_named, has_column, columns_at}
use Rattle.query_resolve.specs.Checks.{fault_unless, first_fault, table_fault, duplicate_fault, key_fault, names_fault, new_key_fault}
use Rattle.query_resolve.specs.Resolved.{ArePlacesOf, IsKeyOf}
use Rattle.query_resolve.proofs.Queries.{wide}
use Rattle.query_resolve.proofs.Lookups.{passes, at_most, none_is, not_some, named_at, named_nowhere, named_apart, passes_at, zip_at, zip_length}

no_column : Column
no_column = record { name = []; kind = Int }

columns_differ : (columns : List Column) → first_fault duplicate_fault [] columns ≡ None → (i j : ℕ) → i < length columns → j < length columns → (column_at columns i).name ≡ (column_at columns j).name → i ≡ j
unfolding no_column
columns_differ columns valid = named_apart (λ (c : Column). c.name) no_column columns (λ j inside. not_some (column_named (take j columns) (column_at columns j).name)
    (passes _ (DuplicateColumn (column_at columns j).name) (passes_at duplicate_fault columns j no_column valid inside)))

module _ (columns : List Column) (names : List (List ℕ)) (key : List ℕ) (valid : first_fault (key_fault columns) [] names ≡ None) (places : AllZip (λ (name : List ℕ) (place : ℕ). column_named columns name ≡ Some place) names key) where
  names_differ : (i j : ℕ) → i < length names → j < length names → get_or names i [] ≡ get_or names j [] → i ≡ j
  names_differ = named_apart (λ (name : List ℕ). name) [] names (λ j inside. none_is (name_place (take j names) (get_or names j []))
      (and_parts (has_column columns (get_or names j [])) _ (passes _ (BadKey (get_or names j [])) (passes_at (key_fault columns) names j [] valid inside))).1)

  named : (i : ℕ) (d : ℕ) → i < length key → (get_or key i d < length columns) × ((column_at columns (get_or key i d)).name ≡ get_or names i [])
  unfolding no_column
  named i d inside = named_at (λ (c : Column). c.name) no_column columns (get_or names i []) (get_or key i d) (zip_at (λ (name : List ℕ) (place : ℕ). column_named columns name ≡ Some place) names key i [] d places inside).1

  key_distinct : AreDistinct key
  key_distinct i j a b same =
      let long = zip_length (λ (name : List ℕ) (place : ℕ). column_named columns name ≡ Some place) names key places in
      names_differ i j (omega (arith, long, a)) (omega (arith, long, b)) (sym (named i 0 a).1 ∙ ap (λ p. (column_at columns p).name) same ∙ (named j 0 b).1)

  pub is_schema : 1 ≤ length columns → length columns ≤ 16 → 1 ≤ length names → first_fault duplicate_fault [] columns ≡ None → IsSchema columns key
  is_schema some few some_key fresh =
      let long = zip_length (λ (name : List ℕ) (place : ℕ). column_named columns name ≡ Some place) names key places in
      record { size = (some, few); names_differ = columns_differ columns fresh; some_key = omega (arith, long, some_key); key_in_range = λ i d inside. (named i d inside).0; key_apart = key_distinct }

-- what the checks of a table that pass say, one by one
checked : (db : List Table) (raw : RawSchema) → table_fault db raw ≡ None
    → (fault_unless (is_none (table_named db raw.name)) (TableExists raw.name) ≡ None) × (fault_unless (nat_lt (length db) 64) (Limit Tables) ≡ None) × (fault_unless (nat_le (length raw.columns) 16) (Limit Columns) ≡ None)
checked db raw valid =
    let rest = both_none (fault_unless (is_none (table_named db raw.name)) (TableExists raw.name)) (first_of (fault_unless (nat_lt (length db) 64) (Limit Tables)) (fault_unless (nat_le (length raw.columns) 16) (Limit Columns))) valid in
    let sizes = both_none (fault_unless (nat_lt (length db) 64) (Limit Tables)) (fault_unless (nat_le (length raw.columns) 16) (Limit Columns)) rest.1 in
    (rest.0, sizes.0, sizes.1)

-- no table has the name
pub free_name : (db : List Table) (raw : RawSchema) → table_fault db raw ≡ None → Contains (names_of db) raw.name → ⊥
free_name db raw valid h =
    let absent : table_named db raw.name ≡ None = none_is (table_named db raw.name) (passes (is_none (table_named db raw.name)) (TableExists raw.name) (checked db raw valid).0) in
    named_nowhere (λ (n : List ℕ). n) raw.name (names_of db) raw.name h.0 absent h.1 h.2

-- fewer than 64 tables are there
pub has_room : (db : List Table) (raw : RawSchema) → table_fault db raw ≡ None → length db < 64
has_room db raw valid = let test : nat_lt (length db) 64 ≡ true = passes (nat_lt (length db) 64) (Limit Tables) (checked db raw valid).1 in grind (arith, nat_tests)

narrow : (db : List Table) (raw : RawSchema) → table_fault db raw ≡ None → length raw.columns ≤ 16
narrow db raw valid = at_most (length raw.columns) 16 (passes _ (Limit Columns) (checked db raw valid).2)

-- the places of the key's names, which were read from the schema
pub key_seen : (raw : RawSchema) (columns : List Column) (names : List (List ℕ)) (key : List ℕ) → columns ≡ raw.columns → names ≡ raw.key → AllZip (λ (name : List ℕ) (place : ℕ). column_named columns name ≡ Some place) names key
    → AllZip (λ (name : List ℕ) (place : ℕ). column_named raw.columns name ≡ Some place) raw.key key
key_seen raw columns names key c n places =
    subst (λ l. AllZip (λ (name : List ℕ) (place : ℕ). column_named l name ≡ Some place) raw.key key) c (subst (λ l. AllZip (λ (name : List ℕ) (place : ℕ). column_named columns name ≡ Some place) l key) n places)

-- copies of the columns, and the places that the key's names have
pub kept_schema : (db : List Table) (raw : RawSchema) (copies seen columns : List Column) (names : List (List ℕ)) (key : List ℕ)
    → seen ≡ raw.columns → columns ≡ raw.columns → names ≡ raw.key → copies ≡ seen → 1 ≤ length raw.columns → 1 ≤ length raw.key → table_fault db raw ≡ None
    → first_fault duplicate_fault [] seen ≡ None → first_fault (key_fault columns) [] names ≡ None → AllZip (λ (name : List ℕ) (place : ℕ). column_named columns name ≡ Some place) names key → IsSchema copies key
kept_schema db raw copies seen columns names key s c n same some some_key valid fresh apart places =
    subst (λ l. IsSchema l key) (sym (same ∙ s))
    (is_schema raw.columns raw.key key (sym (λ i. first_fault (key_fault (c i)) [] (n i)) ∙ apart) (key_seen raw columns names key c n places) some (narrow db raw valid) some_key (ap (first_fault duplicate_fault []) (sym s) ∙ fresh))

-- the key of a table that is there, by the names of its columns
pub is_key : (db : List Table) (table : ℕ) (names : List (List ℕ)) (key : List ℕ) → table < length db → 0 < length names → new_key_fault db table names ≡ None → IsKeyOf db table names key → IsKey (length (kinds_at db table)) key
is_key db table names key there some valid places =
    let columns = columns_at db table in
    let long = zip_length (λ (name : List ℕ) (place : ℕ). column_named columns name ≡ Some place) names key places in
    record {
      some_key = omega (arith, long, some);
      key_in_range = λ i d inside. subst (λ n. get_or key i d < n) (wide db table there) (named columns names key valid places i d inside).0;
      key_apart = key_distinct columns names key valid places;
    }

module _ (db : List Table) (table : ℕ) (names : List (List ℕ)) where
  -- the names were looked up among these columns, which are the table's
  pub key_looked_up : (columns : List Column) {r : Result (List ℕ) (Fail Refusal)} → columns ≡ columns_at db table → Checked r (names_fault columns names) (ArePlacesOf columns names) → Checked r (new_key_fault db table names) (IsKeyOf db table names)
  key_looked_up columns {r = r} seen h = subst (λ cs. Checked r (names_fault cs names) (ArePlacesOf cs names)) seen h

  -- a key that was looked up fits the table
  pub key_fits : (r : Result (List ℕ) (Fail Refusal)) → table < length db → 0 < length names → Checked r (new_key_fault db table names) (IsKeyOf db table names) → IfOk r (λ key. IsKey (length (kinds_at db table)) key)
  key_fits (Ok key) there some h = is_key db table names key there some h.valid h.is
  key_fits (Err e) there some h = tt
