-- Columns of the tables that a query names.
use Rattle.std.proofs.Common.{◌≡◌, ℕ, suc, List, [], ◌∷◌, get_or, Bool, true, false, cond, Option, Some, None, refl, ap, ◌∙◌}
use Rattle.std.specs.List.{filter}
use Rattle.std.specs.Option.{is_some}
use Rattle.cqa_value.specs.Values.{kind_of}
use Rattle.cqa_model.specs.declared.schema.Column.{Column}
use Rattle.cqa_model.specs.declared.query.ColRef.{ColRef}
use Rattle.cqa_model.specs.declared.query.Cond.{Cond}
use Rattle.cqa_model.specs.declared.query.Cond.TheVariants.{Join, Test}
use Rattle.cqa_model.specs.Database.{Table}
use Rattle.refusals.specs.declared.refusal.Refusal.TheVariants.{UnknownTable, UnknownColumn, AmbiguousColumn}
use Rattle.refusals.specs.Refusal.{first_of}
use Rattle.refusals.proofs.Faults.{both_none}
use Rattle.spj_syntax.specs.declared.tree.RawCol.{RawCol}
use Rattle.spj_syntax.specs.declared.tree.RawCond.{RawCond}
use Rattle.spj_syntax.specs.declared.tree.RawCond.TheVariants as written
use Rattle.query_resolve.specs.Names.{name_place, column_named, has_column, columns_named, scope, atom_columns, owners}
use Rattle.query_resolve.specs.Checks.{fault_unless, kinds_fault, owner_fault, column_fault, column_kind, cond_fault}
use Rattle.query_resolve.specs.Resolved.{IsColumnOf, IsCondOf}
use Rattle.query_resolve.proofs.Lookups.{passes, some_is}
use Rattle.query_resolve.proofs.Scopes.{columns-named, only_one}
use Rattle.reading_law.proofs.Members.{column_place}

-- the first of some tables that passes a test
first_passing : (p : List Column → Bool) (tables : List (List Column)) (x : List Column) (more : List (List Column)) → filter p tables ≡ x ∷ more → (i : ℕ) × (p (get_or tables i []) ≡ true)
first_passing p [] x more e = absurd (let h : [] ≡ x ∷ more = e in cc)
first_passing p (t ∷ tables) x more e = go (λ h. first_passing p tables x more h) (p t) refl e
  where
    go : (filter p tables ≡ x ∷ more → (i : ℕ) × (p (get_or tables i []) ≡ true)) → (b : Bool) → p t ≡ b → cond b (t ∷ filter p tables) (filter p tables) ≡ x ∷ more → (i : ℕ) × (p (get_or (t ∷ tables) i []) ≡ true)
    go rest true q h = (0, q)
    go rest false q h = let later = rest h in (suc later.0, later.1)

module _ (db : List Table) (names : List (List ℕ)) where
  -- a column that is written with its table
  of_table : (table name : List ℕ) → column_fault db names (Some table) name ≡ None → (col : ColRef) × IsColumnOf db names (record { table = Some table; name = name }) col
  of_table table name e =
      let both = both_none (fault_unless (is_some (name_place names table)) (UnknownTable table)) (fault_unless (has_column (columns_named db table) name) (UnknownColumn (Some table) name)) e in
      let atom = some_is (name_place names table) (passes _ (UnknownTable table) both.0) in
      let col = column_place (columns_named db table) name (passes _ (UnknownColumn (Some table) name) both.1) in
      (record { atom = atom.0; col = col.0 }, record { atom = atom.1; place = ap (λ l. column_named l name) (columns-named db names table atom.0 atom.1) ∙ col.1 })

  -- a column that is written without a table: one table alone has it
  of_owner : (name : List ℕ) (found : List (List Column)) → owners db names name ≡ found → owner_fault found name ≡ None → (col : ColRef) × IsColumnOf db names (record { table = None; name = name }) col
  of_owner name [] o e = absurd (let h : Some (UnknownColumn None name) ≡ None = e in cc)
  of_owner name (x ∷ []) o e =
      let p : List Column → Bool = λ columns. has_column columns name in
      let at = first_passing p (scope db names) x [] o in
      let col = column_place (atom_columns db names at.0) name at.1 in
      (record { atom = at.0; col = col.0 }, record { atom = λ other h. only_one p [] refl (scope db names) x other at.0 o h at.1; place = col.1 })
  of_owner name (x ∷ y ∷ more) o e = absurd (let h : Some (AmbiguousColumn name) ≡ None = e in cc)

  pub column_resolved : (column : RawCol) → column_fault db names column.table column.name ≡ None → (col : ColRef) × IsColumnOf db names column col
  column_resolved column e = go column.table column.name e
    where
      go : (table : Option (List ℕ)) (name : List ℕ) → column_fault db names table name ≡ None → (col : ColRef) × IsColumnOf db names (record { table = table; name = name }) col
      go None name h = of_owner name (owners db names name) refl h
      go (Some table) name h = of_table table name h

  pub cond_resolved : (number : ℕ) (raw : RawCond) → cond_fault db names number raw ≡ None → (c : Cond) × IsCondOf db names raw c
  cond_resolved number (written.Join left right) e =
      let one = both_none (column_fault db names left.table left.name) (first_of (column_fault db names right.table right.name) (kinds_fault number (column_kind db names left) (column_kind db names right))) e in
      let two = both_none (column_fault db names right.table right.name) (kinds_fault number (column_kind db names left) (column_kind db names right)) one.1 in
      let l = column_resolved left one.0 in
      let r = column_resolved right two.0 in
      (Join l.0 r.0, (l.1, r.1))
  cond_resolved number (written.Test col op value) e =
      let c = column_resolved col (both_none (column_fault db names col.table col.name) (kinds_fault number (column_kind db names col) (kind_of value)) e).0 in
      (Test c.0 op value, (c.1, refl, refl))
