-- Changes of tables: the checks of a key that is set, by its names and by its places.
use Rattle.std.proofs.Common.{◌≡◌, ℕ, List, [], ◌∷◌, None, Result, Ok, Err, refl, sym, ap, ◌∙◌, subst}
use Rattle.cqa_value.specs.declared.memory.Fail.{Fail}
use Rattle.cqa_value.specs.declared.memory.Fail.TheVariants as fails
use Rattle.refusals.specs.declared.refusal.Refusal.{Refusal}
use Rattle.cqa_model.specs.declared.schema.Column.{Column}
use Rattle.cqa_model.specs.Database.{Table}
use Rattle.refusals.specs.Refusal.{first_of, IsRefusedAs, Checked}
use Rattle.spj_syntax.specs.declared.tree.Change.TheVariants.{SetKey}
use Rattle.table_changes.specs.Changes.{rekey_fault}
use Rattle.table_blocks.specs.Tables.{Rekeys}
use Rattle.query_resolve.specs.Names.{columns_at, column_places}
use Rattle.query_resolve.specs.Checks.{new_key_fault}
use Rattle.query_resolve.specs.Resolved.{ArePlacesOf, IsKeyOf}
use Rattle.session_state.specs.Alter.{change_fault, Changes}

-- the places of names are those that they were resolved to
places_are : (columns : List Column) (names : List (List ℕ)) (places : List ℕ) → ArePlacesOf columns names places → column_places columns names ≡ places
places_are columns [] [] are = refl
places_are columns [] (place ∷ places) are = absurd are
places_are columns (name ∷ names) [] are = absurd are
places_are columns (name ∷ names) (place ∷ places) are =
    ap (λ found. Rattle.std.specs.Option.unwrap_or found 0 ∷ column_places columns names) are.0 ∙ ap (λ rest. place ∷ rest) (places_are columns names places are.1)

module _ (db : List Table) (table : ℕ) (names : List (List ℕ)) where
  -- where the names of a key pass, the rows decide
  by_rows : (key : List ℕ) → new_key_fault db table names ≡ None → IsKeyOf db table names key → change_fault db (SetKey names) table ≡ rekey_fault db table key
  by_rows key valid is = ap (λ fault. first_of fault (rekey_fault db table (column_places (columns_at db table) names))) valid ∙ ap (rekey_fault db table) (places_are (columns_at db table) names key is)

  -- a name that doesn't pass is refused first
  pub refused_by_name : (fail : Fail Refusal) → IsRefusedAs fail (new_key_fault db table names) → IsRefusedAs fail (change_fault db (SetKey names) table)
  refused_by_name fails.NoMemory is = tt
  refused_by_name (fails.Refused refusal) is = ap (λ fault. first_of fault (rekey_fault db table (column_places (columns_at db table) names))) is

  -- a key that was resolved is set, or its rows refuse it
  pub set_checked : (key : List ℕ) (new : List Table) (result : Result (Unit {0}) (Fail Refusal)) → new_key_fault db table names ≡ None → IsKeyOf db table names key
      → Checked result (rekey_fault db table key) (λ _. Rekeys db table key new) → Checked result (change_fault db (SetKey names) table) (λ _. Changes db table (SetKey names) new)
  set_checked key new (Ok v) named is checked = record { refused = tt; valid = by_rows key named is ∙ checked.valid; is = (key, is, checked.is) }
  set_checked key new (Err e) named is checked = record { refused = subst (IsRefusedAs e) (sym (by_rows key named is)) checked.refused; valid = tt; is = tt }
