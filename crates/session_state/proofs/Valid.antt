-- A state stays valid.
use Rattle.std.proofs.Common.{◌≤◌, IfSome, slice_set, inl, inr, ℕ, zero, suc, Bool, true, false, slice_get, List, [], ◌∷◌, ◌++◌, Option, Contains, sym, subst}
use Rattle.std.proofs.lemmas.List.Elements.{All-contains, Contains-push_cases}
use Rattle.cqa_value.specs.declared.value.Value.{Value}
use Rattle.cqa_model.specs.declared.schema.Column.{Column}
use Rattle.cqa_model.specs.declared.schema.Schema.{Schema}
use Rattle.cqa_model.specs.Database.{Table}
use Rattle.cqa_model.specs.Valid.{IsName, HasNames, AreValid}
use Rattle.cqa_model.proofs.Classic.{mem-head, mem-tail, mem-cases}
use Rattle.spj_syntax.specs.declared.tree.RawSchema.{RawSchema}
use Rattle.spj_syntax.specs.declared.tree.Change.{Change}
use Rattle.spj_syntax.specs.declared.tree.Change.TheVariants.{SetStrict, DropStrict, SetKey}
use Rattle.table_blocks.specs.Tables.{with_rows, with_mark, AreValidTables, IsRekeyed}
use Rattle.query_resolve.specs.Resolved.{IsSchemaOf}
use Rattle.reply_text.specs.declared.reply.Proof.{Proof}
use Rattle.session_state.specs.State.{IsState}
use Rattle.session_state.specs.Alter.{Changes}

-- each table has names, and so have its columns
abbrev pub AreNamed : List Table → Type 0
AreNamed db = (table : Table) → Contains db table → HasNames table.schema

pub state_of : (tables : List Table) (budget : ℕ) (log : Option Proof) → AreValidTables tables → AreNamed tables → budget ≤ 4_294_967_295 → IsState (record { tables = tables; budget = budget; last_log = log })
state_of tables budget log stored named few = record { database = stored.database; valid = λ table m. record { names = named table m; values = stored.valid table m }; budget = few }

pub named_in : (db : List Table) → AreValid db → AreNamed db
named_in db valid table m = (valid table m).names

-- a table that is made has the names that were written
pub named_schema : (raw : RawSchema) (schema : Schema) → IsSchemaOf raw schema → HasNames schema
named_schema raw schema is = record {
  name = subst IsName (sym is.name) raw.named.of_table;
  columns = λ column m. All-contains (λ (c : Column). IsName c.name) raw.columns column raw.named.of_columns (subst (λ columns. Contains columns column) is.columns m);
}

pub named_more : (db : List Table) (schema : Schema) → AreNamed db → HasNames schema → AreNamed (db ++ (record { schema = schema; rows = [] }) ∷ [])
named_more db schema named names table m = elim (Contains-push_cases db (record { schema = schema; rows = [] }) table m) [
  | inl old ↦ named table old
  | inr new ↦ subst (λ (t : Table). HasNames t.schema) new names
]

-- another mark leaves all names
named_with_mark : (db : List Table) (at : ℕ) (strict : Bool) → AreNamed db → AreNamed (with_mark db at strict)
named_with_mark [] at strict named table m = named table m
named_with_mark (first ∷ db) zero strict named table m = elim (mem-cases table (record first { schema = record first.schema { strict = strict } }) db m) [
  | inl is ↦ subst (λ (t : Table). HasNames t.schema) is (record { name = (named first (mem-head first db)).name; columns = (named first (mem-head first db)).columns })
  | inr later ↦ named table (mem-tail table first db later)
]
named_with_mark (first ∷ db) (suc at) strict named table m = elim (mem-cases table first (with_mark db at strict) m) [
  | inl is ↦ subst (λ (t : Table). HasNames t.schema) is (named first (mem-head first db))
  | inr later ↦ named_with_mark db at strict (λ t n. named t (mem-tail t first db n)) table later
]

-- the names of a table with another key are those that it had
rekeyed_names : (was new : Table) (key : List ℕ) → IsRekeyed was key new → HasNames was.schema → HasNames new.schema
rekeyed_names was new key is names = record {
  name = subst IsName (sym is.name) names.name;
  columns = λ column m. names.columns column (subst (λ columns. Contains columns column) is.columns m);
}

named_with_table : (db : List Table) (at : ℕ) (new : Table) (key : List ℕ) → IfSome (slice_get db at) (λ was. IsRekeyed was key new) → AreNamed db → AreNamed (slice_set db at new)
named_with_table [] at new key is named table m = named table m
named_with_table (first ∷ db) zero new key is named table m = elim (mem-cases table new db m) [
  | inl same ↦ subst (λ (t : Table). HasNames t.schema) same (rekeyed_names first new key is (named first (mem-head first db)))
  | inr later ↦ named table (mem-tail table first db later)
]
named_with_table (first ∷ db) (suc at) new key is named table m = elim (mem-cases table first (slice_set db at new) m) [
  | inl same ↦ subst (λ (t : Table). HasNames t.schema) same (named first (mem-head first db))
  | inr later ↦ named_with_table db at new key is (λ t n. named t (mem-tail t first db n)) table later
]

-- a change of a table leaves all names
pub named_changed : (db : List Table) (at : ℕ) (change : Change) (new : List Table) → Changes db at change new → AreNamed db → AreNamed new
named_changed db at SetStrict new is named = subst AreNamed (sym is) (named_with_mark db at true named)
named_changed db at DropStrict new is named = subst AreNamed (sym is) (named_with_mark db at false named)
named_changed db at (SetKey names) new is named = let changed = is.2 in subst AreNamed (sym changed.others) (named_with_table db at changed.changed is.0 changed.rekeyed named)

-- other rows leave all names
pub named_with_rows : (db : List Table) (at : ℕ) (rows : List (List Value)) → AreNamed db → AreNamed (with_rows db at rows)
named_with_rows [] at rows named table m = named table m
named_with_rows (first ∷ db) zero rows named table m = elim (mem-cases table (record first { rows = rows }) db m) [
  | inl is ↦ subst (λ (t : Table). HasNames t.schema) is (named first (mem-head first db))
  | inr later ↦ named table (mem-tail table first db later)
]
named_with_rows (first ∷ db) (suc at) rows named table m = elim (mem-cases table first (with_rows db at rows) m) [
  | inl is ↦ subst (λ (t : Table). HasNames t.schema) is (named first (mem-head first db))
  | inr later ↦ named_with_rows db at rows (λ t n. named t (mem-tail t first db n)) table later
]
