-- States whose tables are changed, and the table of a name.
use Rattle.std.proofs.Common.{◌≡◌, ◌<◌, ℕ, zero, suc, List, [], ◌∷◌, length, slice_get, Option, Some, None, refl, sym, arith}
use Rattle.std.specs.Option.{option_map_or}
use Rattle.std.proofs.lemmas.Option.{none-some}
use Rattle.cqa_model.specs.Database.{Table}
use Rattle.refusals.specs.declared.refusal.Refusal.{Refusal}
use Rattle.refusals.specs.declared.refusal.Refusal.TheVariants.{UnknownTable}
use Rattle.table_blocks.specs.Tables.{table_named, AreValidTables}
use Rattle.query_resolve.proofs.Scopes.{table_there}
use Rattle.session_state.specs.State.{State, IsState}
use Rattle.session_state.specs.Replying.{on_table}
use Rattle.session_state.proofs.Valid.{AreNamed, state_of, named_in}

-- the tables of a valid state
pub stored_tables : (old : State) → IsState old → AreValidTables old.tables
stored_tables old is = record { database = is.database; valid = λ table m. (is.valid table m).values }

pub named_tables : (old : State) → IsState old → AreNamed old.tables
named_tables old is = named_in old.tables is.valid

-- other tables than those of a valid state
abbrev pub with_tables : State → List Table → State
with_tables old tables = record old { tables = tables }

pub changed : (old : State) (tables : List Table) → IsState old → AreValidTables tables → AreNamed tables → IsState (with_tables old tables)
changed old tables is stored named = state_of tables old.budget old.last_log stored named is.budget

table_at : (db : List Table) (at : ℕ) → at < length db → (t : Table) × (slice_get db at ≡ Some t)
table_at [] at inside = absurd (omega (arith, inside))
table_at (t ∷ db) zero inside = (t, refl)
table_at (t ∷ db) (suc at) inside = table_at db at (omega (arith, inside))

-- a table of a name, of which a check passes
pub record IsFound (db : List Table) (name : List ℕ) (check : ℕ → Option Refusal) : Type 0 where
  pub at : ℕ
  pub named : table_named db name ≡ Some at
  pub passes : check at ≡ None
  pub table : Table
  pub here : slice_get db at ≡ Some table

pub found_on : (db : List Table) (name : List ℕ) (check : ℕ → Option Refusal) → on_table db name check ≡ None → IsFound db name check
found_on db name check e = go (table_named db name) refl e
  where
    go : (o : Option ℕ) → table_named db name ≡ o → option_map_or check o (Some (UnknownTable name)) ≡ None → IsFound db name check
    go None q h = absurd (none-some (UnknownTable name) (sym h))
    go (Some at) q h = let t = table_at db at (table_there db name at q) in record { at = at; named = q; passes = h; table = t.0; here = t.1 }
