-- The columns of the tables that a query names.
use Rattle.std.proofs.Common.{◌≡◌, inl, inr, ℕ, zero, suc, ◌+◌, ◌<◌, List, [], ◌∷◌, length, drop, get_or, slice_get, Option, Some, None, Bool, true, false, cond, All, is_some, refl, sym, ap, ◌∙◌, subst, arith, true≢false}
use Rattle.std.specs.List.{AllZip, filter}
use Rattle.std.proofs.lemmas.List.{length-map, get_or-map, get_or_past}
use Rattle.std.proofs.lemmas.Bool.{cases_lt}
use Rattle.std.proofs.lemmas.Option.{slice_get-get_or}
use Rattle.cqa_value.proofs.Words.{same_head, same_tail}
use Rattle.cqa_model.specs.declared.schema.Column.{Column}
use Rattle.cqa_model.specs.declared.query.Atom.{Atom}
use Rattle.cqa_model.specs.declared.query.ColRef.{ColRef}
use Rattle.refusals.specs.declared.refusal.Refusal.TheVariants.{UnknownTable, UnknownColumn, AmbiguousColumn}
use Rattle.cqa_model.specs.Database.{Table, names_of}
use Rattle.cqa_model.specs.Shape.{column_at, nth_atom}
use Rattle.spj_syntax.specs.declared.tree.RawCol.{RawCol}
use Rattle.refusals.specs.Refusal.{first_of}
use Rattle.table_blocks.specs.Tables.{table_named}
use Rattle.query_resolve.specs.Names.{name_place, column_named, has_column, kind_named, columns_at, columns_named, scope, atom_columns, having, owners, atom_scope, IsNextOwner}
use Rattle.query_resolve.specs.Checks.{fault_unless, owner_fault, column_fault, column_kind, table_of}
use Rattle.query_resolve.specs.Resolved.{IsAtomOf, IsAtomFor, IsColumnOf}
use Rattle.query_resolve.proofs.Members.{drop_next}
use Rattle.query_resolve.proofs.Lookups.{column_inside, named_at, zip_at, zip_length}

-- the columns of a table that is found by its name
pub columns-found : (db : List Table) (name : List ℕ) (table : ℕ) → table_named db name ≡ Some table → columns_named db name ≡ columns_at db table
columns-found db name table e = ap (λ o. Rattle.std.specs.Option.unwrap_or (Rattle.std.specs.Option.option_map (columns_at db) o) []) e

pub table_there : (db : List Table) (name : List ℕ) (table : ℕ) → table_named db name ≡ Some table → table < length db
table_there db name table e = let found = (named_at (λ (n : List ℕ). n) [] (names_of db) name table e).0 in let long = length-map db (λ (t : Table). t.schema.name) in omega (arith, found, long)

pub scope_is : (db : List Table) (names : List (List ℕ)) (atoms : List Atom) → AllZip (IsAtomOf db) names atoms → atom_scope db atoms ≡ scope db names
scope_is db [] [] are = refl
scope_is db [] (a ∷ atoms) are = absurd are
scope_is db (n ∷ names) [] are = absurd are
scope_is db (n ∷ names) (a ∷ atoms) are = (λ i. sym (columns-found db n a.table are.0.table) i ∷ scope_is db names atoms are.1 i)

module _ (db : List Table) (names : List (List ℕ)) (atoms : List Atom) (are : AllZip (IsAtomOf db) names atoms) where
  pub as_many : length atoms ≡ length names
  as_many = zip_length (IsAtomOf db) names atoms are

  pub tables_there : All (λ (atom : Atom). atom.table < length db) atoms
  tables_there i d inside = let at = zip_at (IsAtomOf db) names atoms i [] d are inside in table_there db (get_or names i []) (get_or atoms i d).table at.1.table

  -- the columns of an atom's table
  pub columns-read : (i : ℕ) (d : Atom) → i < length atoms → columns_at db (get_or atoms i d).table ≡ atom_columns db names i
  columns-read i d inside = sym (get_or-map (λ (a : Atom). columns_at db a.table) atoms i d [] inside) ∙ ap (λ s. get_or s i []) (scope_is db names atoms are)

  -- the atom of a table's name
  pub atom_inside : (table : List ℕ) (atom : ℕ) → name_place names table ≡ Some atom → atom < length atoms
  atom_inside table atom e = let found = (named_at (λ (n : List ℕ). n) [] names table atom e).0 in let many = as_many in omega (arith, found, many)

  pub columns_seen : (table : List ℕ) (atom : ℕ) (d : Atom) (columns : List Column) → name_place names table ≡ Some atom → columns ≡ columns_at db (get_or atoms atom d).table → columns ≡ atom_columns db names atom
  columns_seen table atom d columns e same = same ∙ columns-read atom d (atom_inside table atom e)

-- the columns of the table that a column is written with
pub columns-named : (db : List Table) (names : List (List ℕ)) (table : List ℕ) (atom : ℕ) → name_place names table ≡ Some atom → atom_columns db names atom ≡ columns_named db table
columns-named db names table atom e =
    let found = named_at (λ (n : List ℕ). n) [] names table atom e in
    get_or-map (columns_named db) names atom [] [] found.0 ∙ ap (columns_named db) found.1

-- a column that is written with its table
module _ (db : List Table) (names : List (List ℕ)) (table name : List ℕ) (atom : ℕ) (found : name_place names table ≡ Some atom) (columns : List Column) (same : columns ≡ atom_columns db names atom) where
  table_passes : column_fault db names (Some table) name ≡ fault_unless (has_column columns name) (UnknownColumn (Some table) name)
  table_passes =
      ap (λ o. first_of (fault_unless (is_some o) (UnknownTable table)) (fault_unless (has_column (columns_named db table) name) (UnknownColumn (Some table) name))) found
      ∙ ap (λ l. fault_unless (has_column l name) (UnknownColumn (Some table) name)) (sym (same ∙ columns-named db names table atom found))

  pub column_passes : (col : ℕ) → column_named columns name ≡ Some col → column_fault db names (Some table) name ≡ None
  column_passes col e = table_passes ∙ ap (λ o. fault_unless (is_some o) (UnknownColumn (Some table) name)) e

  pub column_fails : column_named columns name ≡ None → column_fault db names (Some table) name ≡ Some (UnknownColumn (Some table) name)
  column_fails e = table_passes ∙ ap (λ o. fault_unless (is_some o) (UnknownColumn (Some table) name)) e

-- the columns of an atom's table, which were read
pub table_read : (db : List Table) (atoms : List Atom) (at : ℕ) (d : Atom) (columns : List Column) → at < length atoms → columns ≡ columns_at db (get_or atoms at d).table → slice_get (atom_scope db atoms) at ≡ Some columns
table_read db atoms at d columns inside same =
    let long = length-map atoms (λ (a : Atom). columns_at db a.table) in
    slice_get-get_or (atom_scope db atoms) at [] (omega (arith, long, inside)) ∙ ap (λ l. Some l) (get_or-map (λ (a : Atom). columns_at db a.table) atoms at d [] inside ∙ sym same)

-- the tables that have a column, one table further
having-step : (name : List ℕ) (tables : List (List Column)) (at : ℕ) (x : List Column) → slice_get tables at ≡ Some x
    → having name (drop at tables) ≡ cond (has_column x name) (x ∷ having name (drop (at + 1) tables)) (having name (drop (at + 1) tables))
having-step name tables at x here = ap (having name) (drop_next tables at x here)

pub having_none : (name : List ℕ) (tables : List (List Column)) (at : ℕ) (x : List Column) → slice_get tables at ≡ Some x → column_named x name ≡ None → having name (drop at tables) ≡ having name (drop (at + 1) tables)
having_none name tables at x here e = having-step name tables at x here ∙ ap (λ o. cond (is_some o) (x ∷ having name (drop (at + 1) tables)) (having name (drop (at + 1) tables))) e

pub having_some : (name : List ℕ) (tables : List (List Column)) (at : ℕ) (x : List Column) (col : ℕ) → slice_get tables at ≡ Some x → column_named x name ≡ Some col → having name (drop at tables) ≡ x ∷ having name (drop (at + 1) tables)
having_some name tables at x col here e = having-step name tables at x here ∙ ap (λ o. cond (is_some o) (x ∷ having name (drop (at + 1) tables)) (having name (drop (at + 1) tables))) e

nil_cons : {A : Type 0} (x : A) (xs : List A) → [] ≡ x ∷ xs → ⊥
nil_cons x xs e = (cc)

cons_nil : {A : Type 0} (x : A) (xs : List A) → x ∷ xs ≡ [] → ⊥
cons_nil x xs e = (cc)

-- of the members of a list one passes, or none
module _ {A : Type 0} (p : A → Bool) (d : A) (fails : p d ≡ false) where
  none_passes : (xs : List A) (i : ℕ) → filter p xs ≡ [] → p (get_or xs i d) ≡ true → ⊥
  none_passes [] i e h = true≢false (sym h ∙ fails)
  none_passes (x ∷ xs) i e h = go (λ k. none_passes xs k) (p x) refl i e h
    where
      go : ((k : ℕ) → filter p xs ≡ [] → p (get_or xs k d) ≡ true → ⊥) → (b : Bool) → p x ≡ b → (i : ℕ) → cond b (x ∷ filter p xs) (filter p xs) ≡ [] → p (get_or (x ∷ xs) i d) ≡ true → ⊥
      go rest true q i e h = cons_nil x (filter p xs) e
      go rest false q zero e h = true≢false (sym h ∙ q)
      go rest false q (suc i) e h = rest i e h

  pub only_one : (xs : List A) (x : A) (i j : ℕ) → filter p xs ≡ x ∷ [] → p (get_or xs i d) ≡ true → p (get_or xs j d) ≡ true → i ≡ j
  only_one [] x i j e h k = absurd (nil_cons x [] e)
  only_one (y ∷ xs) x i j e h k = go (λ m n. only_one xs x m n) (p y) refl i j e h k
    where
      go : ((m n : ℕ) → filter p xs ≡ x ∷ [] → p (get_or xs m d) ≡ true → p (get_or xs n d) ≡ true → m ≡ n) → (b : Bool) → p y ≡ b → (i j : ℕ) → cond b (y ∷ filter p xs) (filter p xs) ≡ x ∷ [] → p (get_or (y ∷ xs) i d) ≡ true → p (get_or (y ∷ xs) j d) ≡ true → i ≡ j
      go rest true q zero zero e h k = refl
      go rest true q zero (suc j) e h k = absurd (none_passes xs j (same_tail y x (filter p xs) [] e) k)
      go rest true q (suc i) j e h k = absurd (none_passes xs i (same_tail y x (filter p xs) [] e) h)
      go rest false q zero j e h k = absurd (true≢false (sym h ∙ q))
      go rest false q (suc i) zero e h k = absurd (true≢false (sym k ∙ q))
      go rest false q (suc i) (suc j) e h k = ap suc (rest i j e h k)

  pub the_one : (xs : List A) (x : A) (i : ℕ) → filter p xs ≡ x ∷ [] → p (get_or xs i d) ≡ true → get_or xs i d ≡ x
  the_one [] x i e h = absurd (nil_cons x [] e)
  the_one (y ∷ xs) x i e h = go (λ k. the_one xs x k) (p y) refl i e h
    where
      go : ((k : ℕ) → filter p xs ≡ x ∷ [] → p (get_or xs k d) ≡ true → get_or xs k d ≡ x) → (b : Bool) → p y ≡ b → (i : ℕ) → cond b (y ∷ filter p xs) (filter p xs) ≡ x ∷ [] → p (get_or (y ∷ xs) i d) ≡ true → get_or (y ∷ xs) i d ≡ x
      go rest true q zero e h = same_head y x (filter p xs) [] e
      go rest true q (suc i) e h = absurd (none_passes xs i (same_tail y x (filter p xs) [] e) h)
      go rest false q zero e h = absurd (true≢false (sym h ∙ q))
      go rest false q (suc i) e h = rest i e h

-- a column that is written without a table
module _ (db : List Table) (names : List (List ℕ)) (name : List ℕ) (tables : List (List Column)) (same : tables ≡ scope db names) where
  any_is : column_fault db names None name ≡ owner_fault (having name tables) name
  any_is = ap (λ s. owner_fault (having name s) name) (sym same)

  pub nowhere : having name tables ≡ [] → column_fault db names None name ≡ Some (UnknownColumn None name)
  nowhere e = any_is ∙ ap (λ o. owner_fault o name) e

  pub twice : (col other : ColRef) → IsNextOwner tables name 0 col → IsNextOwner tables name (col.atom + 1) other → column_fault db names None name ≡ Some (AmbiguousColumn name)
  twice col other first second = any_is ∙ ap (λ o. owner_fault o name) (first.first ∙ ap (λ l. get_or tables col.atom [] ∷ l) second.first)

  pub once : (col : ColRef) → IsNextOwner tables name 0 col → having name (drop (col.atom + 1) tables) ≡ [] → column_fault db names None name ≡ None
  once col first none = any_is ∙ ap (λ o. owner_fault o name) (first.first ∙ ap (λ l. get_or tables col.atom [] ∷ l) none)

  pub place_of : (col : ColRef) → IsNextOwner tables name 0 col → column_named (atom_columns db names col.atom) name ≡ Some col.col
  place_of col first = ap (λ s. column_named (get_or s col.atom []) name) (sym same) ∙ first.place

  pub only_owner : (col : ColRef) → IsNextOwner tables name 0 col → having name (drop (col.atom + 1) tables) ≡ [] → IsAtomFor db names None name col.atom
  only_owner col first none other h =
      only_one (λ columns. has_column columns name) [] refl (scope db names) (get_or tables col.atom []) other col.atom
      (ap (having name) (sym same) ∙ first.first ∙ ap (λ l. get_or tables col.atom [] ∷ l) none) h (ap is_some (place_of col first))

one_owner : (owners : List (List Column)) (name : List ℕ) → owner_fault owners name ≡ None → (x : List Column) × (owners ≡ x ∷ [])
one_owner [] name e = absurd (let q : Some (UnknownColumn None name) ≡ None = e in (cc))
one_owner (x ∷ []) name e = (x, refl)
one_owner (x ∷ y ∷ more) name e = absurd (let q : Some (AmbiguousColumn name) ≡ None = e in (cc))

-- the kind of the column that was found
pub kind_is : (db : List Table) (names : List (List ℕ)) (table : Option (List ℕ)) (name : List ℕ) (atom col : ℕ) → IsAtomFor db names table name atom → column_named (atom_columns db names atom) name ≡ Some col
    → column_fault db names table name ≡ None → (column_at (atom_columns db names atom) col).kind ≡ kind_named (table_of db names table name) name
kind_is db names (Some table) name atom col for place valid =
    let same = columns-named db names table atom for in
    ap (λ l. (column_at l col).kind) same ∙ ap (λ o. (column_at (columns_named db table) (Rattle.std.specs.Option.unwrap_or o 0)).kind) (sym (ap (λ l. column_named l name) (sym same) ∙ place))
kind_is db names None name atom col for place valid =
    let one = one_owner (owners db names name) name valid in
    let same : atom_columns db names atom ≡ one.0 = the_one (λ columns. has_column columns name) [] refl (scope db names) one.0 atom one.1 (ap is_some place) in
    ap (λ l. (column_at l col).kind) same ∙ ap (λ o. (column_at one.0 (Rattle.std.specs.Option.unwrap_or o 0)).kind) (sym (ap (λ l. column_named l name) (sym same) ∙ place))
    ∙ ap (λ l. kind_named (get_or l 0 []) name) (sym one.1)

-- a column that was found
module _ (db : List Table) (names : List (List ℕ)) (atoms : List Atom) (are : AllZip (IsAtomOf db) names atoms) (written : RawCol) (col : ColRef) (is : IsColumnOf db names written col) where
  pub atom_there : col.atom < length atoms
  atom_there = elim (cases_lt col.atom (length atoms)) [
    | inl below ↦ below
    | inr past ↦ (
        let inside = column_inside (atom_columns db names col.atom) written.name col.col is.place in
        let many = as_many db names atoms are in
        let long = length-map names (columns_named db) in
        let none = ap length (get_or_past (scope db names) col.atom [] (omega (arith, past, many, long))) in
        absurd (omega (arith, inside, none))
        )
  ]

  pub table_of_column : (nth_atom atoms col.atom).table < length db
  table_of_column = tables_there db names atoms are col.atom (record { table = 0; width = 0; key = []; strict = false }) atom_there

  columns_is : columns_at db (nth_atom atoms col.atom).table ≡ atom_columns db names col.atom
  columns_is = columns-read db names atoms are col.atom (record { table = 0; width = 0; key = []; strict = false }) atom_there

  pub column_there : col.col < length (columns_at db (nth_atom atoms col.atom).table)
  column_there = subst (λ l. col.col < length l) (sym columns_is) (column_inside (atom_columns db names col.atom) written.name col.col is.place)

  pub kind_found : column_fault db names written.table written.name ≡ None → (column_at (columns_at db (nth_atom atoms col.atom).table) col.col).kind ≡ column_kind db names written
  kind_found valid = ap (λ l. (column_at l col.col).kind) columns_is ∙ kind_is db names written.table written.name col.atom col.col is.atom is.place valid
