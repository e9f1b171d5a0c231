-- Statements that change tables go on.
use Rattle.std.proofs.Common.{◌≡◌, inl, inr, ℕ, List, [], ◌∷◌, ◌++◌, Contains, Option, Some, None, Err, refl, sym, ◌∙◌, subst}
use Rattle.std.proofs.lemmas.List.Elements.{All-contains}
use Rattle.std.proofs.lemmas.Option.{none-some, slice_get_within}
use Rattle.cqa_value.specs.declared.memory.Fail.TheVariants as fails
use Rattle.cqa_value.specs.declared.value.Value.{Value}
use Rattle.cqa_value.specs.Valid.{IsValidRow}
use Rattle.cqa_model.specs.Database.{Table, names_of}
use Rattle.refusals.specs.declared.refusal.Refusal.{Refusal}
use Rattle.refusals.specs.declared.refusal.Refusal.TheVariants.{BadCsv}
use Rattle.refusals.specs.Refusal.{first_of}
use Rattle.refusals.proofs.Faults.{both_none}
use Rattle.spj_syntax.specs.declared.tree.Change.{Change}
use Rattle.spj_syntax.specs.declared.tree.Change.TheVariants.{SetStrict, DropStrict, SetKey}
use Rattle.spj_syntax.specs.Written.{HasKey}
use Rattle.table_blocks.specs.Tables.{kinds_at, AreValidRows, AreValidTables}
use Rattle.table_blocks.proofs.Changing.{stored_push}
use Rattle.table_changes.specs.Changes.{insert_fault, rekey_fault}
use Rattle.csv_rows.specs.Blocks.{HoldsRows, IsFirstBad}
use Rattle.query_resolve.specs.Names.{columns_at, column_places}
use Rattle.query_resolve.specs.Checks.{first_fault, table_fault, duplicate_fault, names_fault, new_key_fault, tests_fault}
use Rattle.query_resolve.proofs.Schemas.{free_name, has_room, is_key}
use Rattle.reading_law.proofs.Members.{schemas_are_resolved, keys_are_resolved, tests_are_resolved}
use Rattle.reading_law.proofs.Records.{blocks_are_read}
use Rattle.reply_text.specs.declared.reply.Reply.TheVariants.{Created, Altered, Inserted, Deleted, Copied, Refused}
use Rattle.session_state.specs.State.{State, IsState}
use Rattle.session_state.specs.Alter.{change_fault, Changes, Alters}
use Rattle.session_state.specs.Copy.{block_bytes, CopiesInto}
use Rattle.session_state.proofs.Altering.{set_checked}
use Rattle.session_state.proofs.Valid.{named_more, named_schema, named_changed, named_with_rows}
use Rattle.command_shell.specs.Changing.{GoesOnTo, CreatesGoOn, AltersGoOn, InsertsGoOn, DeletesGoOn, PrefersGoOn, CopiesGoOn}
use Rattle.command_shell.proofs.States.{stored_tables, named_tables, with_tables, changed, IsFound, found_on}
use Rattle.command_shell.proofs.Tables.{set_strict, drop_strict, set_key, put_key, deletes, put_spared, prefers, put_preferred}
use Rattle.command_shell.proofs.Merged.{put_rows, inserts}
use Rattle.query_resolve.specs.Resolved.{IsKeyOf}

pub creates_go_on : CreatesGoOn
creates_go_on old raw is e =
    let schema = schemas_are_resolved old.tables raw e in
    let fits = (both_none (table_fault old.tables raw) (first_of (first_fault duplicate_fault [] raw.columns) (names_fault raw.columns raw.key)) e).0 in
    let other : Contains (names_of old.tables) schema.0.name → ⊥ = λ m. free_name old.tables raw fits (subst (Contains (names_of old.tables)) schema.1.name m) in
    let tables : List Table = old.tables ++ (record { schema = schema.0; rows = [] }) ∷ [] in (
      Created raw.name,
      with_tables old tables,
      (
        record { schema = schema.0; resolved = schema.1; tables = refl; others = refl; replies = refl },
        changed old tables is (stored_push old.tables schema.0 (stored_tables old is) (has_room old.tables raw fits) other)
            (named_more old.tables schema.0 (named_tables old is) (named_schema raw schema.0 schema.1)),
      ),
    )

-- ---- alter

-- a key whose names pass is set, where no rows break it
module _ (db : List Table) (at : ℕ) (names : List (List ℕ)) (key : List ℕ) where
  not_broken : new_key_fault db at names ≡ None → IsKeyOf db at names key → change_fault db (SetKey names) at ≡ None → rekey_fault db at key ≡ None
  not_broken named resolved e = go (rekey_fault db at key) refl
    where
      go : (o : Option Refusal) → rekey_fault db at key ≡ o → o ≡ None
      go None q = refl
      go (Some refusal) q =
          let broken : change_fault db (SetKey names) at ≡ Some refusal = (set_checked db at names key db (Err (fails.Refused refusal)) named resolved (record { refused = q; valid = tt; is = tt })).refused in
          absurd (none-some refusal (sym e ∙ broken))

module _ (old : State) (name : List ℕ) (is : IsState old) where
  altered : (change : Change) (found : IsFound old.tables name (change_fault old.tables change)) (tables : List Table) → Changes old.tables found.at change tables → AreValidTables tables → GoesOnTo (Alters old name change)
  altered change found tables done stored = (
    Altered name,
    with_tables old tables,
    (
      record { table = found.at; found = found.named; tables = done; others = refl; replies = refl },
      changed old tables is stored (named_changed old.tables found.at change tables done (named_tables old is)),
    ),
  )

  alter_found : (change : Change) → HasKey change → IsFound old.tables name (change_fault old.tables change) → GoesOnTo (Alters old name change)
  alter_found SetStrict some found = altered SetStrict found _ refl (set_strict old.tables found.at found.table found.here (stored_tables old is) found.passes)
  alter_found DropStrict some found = altered DropStrict found _ refl (drop_strict old.tables found.at found.table found.here (stored_tables old is))
  alter_found (SetKey names) some found =
      let db = old.tables in
      let named = (both_none (new_key_fault db found.at names) (rekey_fault db found.at (column_places (columns_at db found.at) names)) found.passes).0 in
      let key = keys_are_resolved db found.at names named in
      let fit = is_key db found.at names key.0 (slice_get_within db found.at found.table found.here) some named key.1 in
      let free = not_broken db found.at names key.0 named key.1 found.passes in
      altered (SetKey names) found _ (key.0, key.1, set_key db found.at found.table found.here (stored_tables old is) key.0 fit free) (put_key db found.at found.table found.here (stored_tables old is) key.0 fit free)

pub alters_go_on : AltersGoOn
alters_go_on old name change is some e = alter_found old name is change some (found_on old.tables name (change_fault old.tables change) e)

-- ---- rows

pub inserts_go_on : InsertsGoOn
inserts_go_on old name rows is valid e =
    let db = old.tables in
    let found = found_on db name (λ table. insert_fault db table rows) e in
    let values : AreValidRows rows = λ row m. All-contains IsValidRow rows row valid m in
    let done = inserts db found.at found.table found.here (stored_tables old is) rows values found.passes in (
      Inserted _,
      with_tables old _,
      (
        record { table = found.at; found = found.named; count = _; tables = done; others = refl; replies = refl },
        changed old _ is (put_rows db found.at found.table found.here (stored_tables old is) rows values found.passes) (named_with_rows db found.at _ (named_tables old is)),
      ),
    )

pub deletes_go_on : DeletesGoOn
deletes_go_on old name raw is e =
    let db = old.tables in
    let found = found_on db name (λ table. tests_fault db table raw) e in
    let tests = tests_are_resolved db found.at raw found.passes in
    let done = deletes db found.at found.table found.here (stored_tables old is) tests.0 in (
      Deleted _,
      with_tables old _,
      (
        record { table = found.at; found = found.named; tests = tests.0; resolved = tests.1; count = _; tables = done; others = refl; replies = refl },
        changed old _ is (put_spared db found.at found.table found.here (stored_tables old is) tests.0) (named_with_rows db found.at _ (named_tables old is)),
      ),
    )

pub prefers_go_on : PrefersGoOn
prefers_go_on old name raw is e =
    let db = old.tables in
    let found = found_on db name (λ table. tests_fault db table raw) e in
    let tests = tests_are_resolved db found.at raw found.passes in
    let done = prefers db found.at found.table found.here (stored_tables old is) tests.0 in (
      Deleted _,
      with_tables old _,
      (
        record { table = found.at; found = found.named; tests = tests.0; resolved = tests.1; count = _; tables = done; others = refl; replies = refl },
        changed old _ is (put_preferred db found.at found.table found.here (stored_tables old is) tests.0) (named_with_rows db found.at _ (named_tables old is)),
      ),
    )

-- ---- copy

module _ (old : State) (name : List ℕ) (block : Option (List ℕ)) (is : IsState old) (found : IsFound old.tables name (λ table. None)) where
  abbrev bytes : List ℕ
  bytes = block_bytes block

  -- a record is no row
  bad_record : (number : ℕ) → IsFirstBad (kinds_at old.tables found.at) bytes number → GoesOnTo (CopiesInto old name block)
  bad_record number bad = (Refused (BadCsv number), old, (record { table = found.at; found = found.named; told = (inl (record { number = number; first = bad; is = refl }), refl) }, is))

  -- the rows are put into the table, or a check of them fails
  of_rows : (rows : List (List Value)) → HoldsRows (kinds_at old.tables found.at) bytes rows → AreValidRows rows → GoesOnTo (CopiesInto old name block)
  of_rows rows held valid = go (insert_fault old.tables found.at rows) refl
    where
      go : (o : Option Refusal) → insert_fault old.tables found.at rows ≡ o → GoesOnTo (CopiesInto old name block)
      go (Some refusal) q = (Refused refusal, old, (record { table = found.at; found = found.named; told = (inr (record { rows = rows; held = held; first = q }), refl) }, is))
      go None q =
          let done = inserts old.tables found.at found.table found.here (stored_tables old is) rows valid q in (
            Copied _,
            with_tables old _,
            (
              record { table = found.at; found = found.named; told = record { rows = rows; held = held; valid = q; tables = done; others = refl } },
              changed old _ is (put_rows old.tables found.at found.table found.here (stored_tables old is) rows valid q) (named_with_rows old.tables found.at _ (named_tables old is)),
            ),
          )

pub copies_go_on : CopiesGoOn
copies_go_on old name block is e =
    let found = found_on old.tables name (λ table. None) e in
    elim (blocks_are_read (kinds_at old.tables found.at) (block_bytes block)) [
      | inl read ↦ of_rows old name block is found read.0 read.1 read.2
      | inr bad ↦ bad_record old name block is found bad.0 bad.1
    ]
