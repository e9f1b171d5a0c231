-- Queries that pass their checks.
use Rattle.std.proofs.Common.{◌≡◌, false, ℕ, zero, suc, ◌+◌, ◌<◌, ◌≤◌, List, [], ◌∷◌, length, take, get_or, slice_get, Some, None, All, Contains, nat_le, is_some, refl, sym, ap, ◌∙◌, subst, arith}
use Rattle.std.specs.List.{AllZip}
use Rattle.std.proofs.lemmas.List.{length-map}
use Rattle.std.proofs.Math.ListN.{get_or-map as get_or-map_default}
use Rattle.cqa_value.specs.declared.value.Kind.{Kind}
use Rattle.cqa_value.specs.declared.value.Kind.TheVariants.{Int, Text}
use Rattle.cqa_value.specs.Values.{kind_of}
use Rattle.cqa_model.specs.declared.schema.Column.{Column}
use Rattle.cqa_model.specs.declared.query.Atom.{Atom}
use Rattle.cqa_model.specs.declared.query.ColRef.{ColRef}
use Rattle.cqa_model.specs.declared.query.Cond.{Cond}
use Rattle.cqa_model.specs.declared.query.Cond.TheVariants.{Join, Test}
use Rattle.cqa_model.specs.declared.query.Query.{Query}
use Rattle.refusals.specs.declared.refusal.Refusal.TheVariants.{UnknownTable, SelfJoin, TypeMismatch, Limit}
use Rattle.refusals.specs.declared.refusal.Place.TheVariants.{Condition}
use Rattle.refusals.specs.declared.refusal.LimitKind.TheVariants.{Atoms, Answer}
use Rattle.cqa_model.specs.Database.{Table, IsDatabase, column_kinds}
use Rattle.cqa_model.specs.Shape.{IsAtom, IsQuery, IsInRange, columns_of, column_at, nth_atom}
use Rattle.cqa_model.specs.Query.{KindsAgree, kind_at}
use Rattle.cqa_model.proofs.Fitting.{strict-consistent}
use Rattle.cqa_model.proofs.Places.{map-at, key-at, kinds-at}
use Rattle.spj_syntax.specs.declared.tree.RawCol.{RawCol}
use Rattle.spj_syntax.specs.declared.tree.RawCond.{RawCond}
use Rattle.spj_syntax.specs.declared.tree.RawCond.TheVariants.{Join as WrittenJoin, Test as WrittenTest}
use Rattle.spj_syntax.specs.declared.tree.Select.{Select}
use Rattle.refusals.specs.Refusal.{first_of}
use Rattle.table_blocks.specs.Tables.{table_named}
use Rattle.refusals.proofs.Faults.{both_none}
use Rattle.query_resolve.specs.Names.{name_place, columns_at}
use Rattle.query_resolve.specs.Checks.{fault_unless, first_fault, fault_by_number, kinds_fault, from_fault, column_fault, column_kind, cond_fault, size_fault, where_fault}
use Rattle.query_resolve.specs.Resolved.{IsAtomOf, IsColumnOf, IsCondOf, IsQueryOf}
use Rattle.query_resolve.proofs.Lookups.{passes, at_most, none_is, named_at, named_apart, passes_at, zip_at, zip_length}
use Rattle.query_resolve.proofs.Scopes.{table_there, as_many, atom_there, table_of_column, column_there, kind_found}

pub no_atom : Atom
no_atom = record { table = 0; width = 0; key = []; strict = false }

-- a table that is there
table_at : (db : List Table) (t : ℕ) → t < length db → (table : Table) × (slice_get db t ≡ Some table)
table_at [] t inside = absurd (omega (arith, inside))
table_at (x ∷ db) zero inside = (x, refl)
table_at (x ∷ db) (suc t) inside = table_at db t (omega (arith, inside))

-- both kinds of a condition that passes are one
kinds_same : (number : ℕ) (a b : Kind) → kinds_fault number a b ≡ None → a ≡ b
kinds_same number Int Int e = refl
kinds_same number Int Text e = absurd (let q : Some (TypeMismatch (Condition number)) ≡ None = e in (cc))
kinds_same number Text Int e = absurd (let q : Some (TypeMismatch (Condition number)) ≡ None = e in (cc))
kinds_same number Text Text e = refl

-- an atom of a table has the table's width and key, which its schema keeps
atom_is : (db : List Table) (name : List ℕ) (atom : Atom) → IsAtomOf db name atom → IsAtom atom
atom_is db name atom is =
    let found = table_at db atom.table (table_there db name atom.table is.table) in
    let kept = found.0.schema.kept in
    let wide : atom.width ≡ length found.0.schema.columns = is.width ∙ ap length (map-at (λ (t : Table). t.schema.columns) db atom.table found.0 [] found.1) in
    let keyed : atom.key ≡ found.0.schema.key = is.key ∙ key-at db atom.table found.0 found.1 in
    record {
      width = (omega (arith, wide, kept.size.0), omega (arith, wide, kept.size.1));
      some_key = subst (λ key. 1 ≤ length key) (sym keyed) kept.some_key;
      key_in_range = subst (λ key. All (λ p. p < atom.width) key) (sym keyed) (subst (λ n. All (λ p. p < n) found.0.schema.key) (sym wide) kept.key_in_range);
      key_apart = subst Rattle.cqa_model.specs.Shape.AreDistinct (sym keyed) kept.key_apart;
    }

module _ (db : List Table) (names : List (List ℕ)) (atoms : List Atom) (are : AllZip (IsAtomOf db) names atoms) where
  pub atom_of_name : (F : ℕ) → F < length atoms → IsAtomOf db (get_or names F []) (nth_atom atoms F)
  unfolding no_atom
  atom_of_name F inside = (zip_at (IsAtomOf db) names atoms F [] no_atom are inside).1

  -- atoms of different names are of different tables
  atoms_apart : first_fault (from_fault db) [] names ≡ None → (F G : ℕ) → F < length atoms → G < length atoms → (nth_atom atoms F).table ≡ (nth_atom atoms G).table → F ≡ G
  atoms_apart valid F G a b same =
      let many = as_many db names atoms are in
      let name : (H : ℕ) → H < length atoms → get_or (Rattle.cqa_model.specs.Database.names_of db) (nth_atom atoms H).table [] ≡ get_or names H [] =
      λ H h. (named_at (λ (n : List ℕ). n) [] (Rattle.cqa_model.specs.Database.names_of db) (get_or names H []) (nth_atom atoms H).table (atom_of_name H h).table).1 in
      named_apart (λ (n : List ℕ). n) [] names
      (λ j inside. none_is (name_place (take j names) (get_or names j []))
      (passes _ (SelfJoin (get_or names j [])) (both_none (fault_unless (is_some (table_named db (get_or names j []))) (UnknownTable (get_or names j []))) _ (passes_at (from_fault db) names j [] valid inside)).1))
      F G (omega (arith, many, a)) (omega (arith, many, b)) (sym (name F a) ∙ ap (λ t. get_or (Rattle.cqa_model.specs.Database.names_of db) t []) same ∙ name G b)

  in_range : (written : RawCol) (col : ColRef) → IsColumnOf db names written col → IsInRange atoms col
  in_range written col is =
      let there = atom_there db names atoms are written col is in
      (there, subst (λ n. col.col < n) (sym (atom_of_name col.atom there).width) (column_there db names atoms are written col is))

  cond_in_range : (written : RawCond) (cond : Cond) → IsCondOf db names written cond → (c : ColRef) → Contains (columns_of cond) c → IsInRange atoms c
  cond_in_range (WrittenJoin left right) (Join l r) is c (zero, b, e) = subst (IsInRange atoms) e (in_range left l is.0)
  cond_in_range (WrittenJoin left right) (Join l r) is c (suc zero, b, e) = subst (IsInRange atoms) e (in_range right r is.1)
  cond_in_range (WrittenJoin left right) (Join l r) is c (suc (suc k), b, e) = absurd (omega (arith, b))
  cond_in_range (WrittenJoin left right) (Test col op value) is c h = absurd is
  cond_in_range (WrittenTest col op value) (Join l r) is c h = absurd is
  cond_in_range (WrittenTest col op value) (Test d o v) is c (zero, b, e) = subst (IsInRange atoms) e (in_range col d is.0)
  cond_in_range (WrittenTest col op value) (Test d o v) is c (suc k, b, e) = absurd (omega (arith, b))

-- a value of a list stands for a written one
zip_found : {A B : Type 0} (R : A → B → Type 0) (xs : List A) (ys : List B) (y : B) → AllZip R xs ys → Contains ys y → (i : ℕ) × (x : A) × (i < length xs) × (get_or xs i x ≡ x) × R x y
zip_found R [] [] y so (k, b, e) = absurd (omega (arith, b))
zip_found R [] (z ∷ ys) y so h = absurd so
zip_found R (x ∷ xs) [] y so h = absurd so
zip_found R (x ∷ xs) (z ∷ ys) y so (zero, b, e) = (zero, x, omega arith, refl, subst (R x) e so.0)
zip_found R (x ∷ xs) (z ∷ ys) y so (suc k, b, e) = let more = zip_found R xs ys y so.1 (k, omega (arith, b), e) in (suc more.0, more.1, omega (arith, more.2), more.3, more.4)

-- the kinds of a table's columns are those that it is stored with
pub kinds_stored : (db : List Table) (t col : ℕ) → t < length db → get_or (get_or (column_kinds db) t []) col Int ≡ (column_at (columns_at db t) col).kind
kinds_stored db t col inside =
    let found = table_at db t inside in
    ap (λ l. get_or l col Int) (kinds-at db t found.0 found.1) ∙ get_or-map_default (λ (c : Column). c.kind) found.0.schema.columns col (record { name = []; kind = Int })
    ∙ ap (λ l. (column_at l col).kind) (sym (map-at (λ (t : Table). t.schema.columns) db t found.0 [] found.1))

-- a table has as many columns as kinds
pub wide : (db : List Table) (t : ℕ) → t < length db → length (columns_at db t) ≡ length (get_or (column_kinds db) t [])
wide db t inside =
    let found = table_at db t inside in
    ap length (map-at (λ (t : Table). t.schema.columns) db t found.0 [] found.1) ∙ sym (length-map found.0.schema.columns (λ (c : Column). c.kind)) ∙ ap length (sym (kinds-at db t found.0 found.1))

-- what the parts of a query were resolved from
pub record Parts (db : List Table) (names : List (List ℕ)) (columns : List RawCol) (written : List RawCond) (atoms : List Atom) (conds : List Cond) (answer : List ColRef) : Type 0 where
  pub are : AllZip (IsAtomOf db) names atoms
  pub apart : first_fault (from_fault db) [] names ≡ None
  pub selected : AllZip (IsColumnOf db names) columns answer
  pub meant : AllZip (IsCondOf db names) written conds
  pub sound : where_fault db names written ≡ None

-- the written parts, which were read from the select
pub parts_seen : (db : List Table) (select : Select) (names : List (List ℕ)) (columns : List RawCol) (written : List RawCond) (atoms : List Atom) (conds : List Cond) (answer : List ColRef)
    → names ≡ select.tables → columns ≡ select.columns → written ≡ select.conds → Parts db names columns written atoms conds answer → Parts db select.tables select.columns select.conds atoms conds answer
parts_seen db select names columns written atoms conds answer n c w parts =
    subst (λ l. Parts db l select.columns select.conds atoms conds answer) n (subst (λ l. Parts db names l select.conds atoms conds answer) c (subst (λ l. Parts db names columns l atoms conds answer) w parts))

few_tables : (select : Select) → size_fault select ≡ None → (length select.tables ≤ 12) × (length select.columns ≤ 192)
few_tables select e =
    let both = both_none (fault_unless (nat_le (length select.tables) 12) (Limit Atoms)) (fault_unless (nat_le (length select.columns) 192) (Limit Answer)) e in
    (at_most (length select.tables) 12 (passes _ (Limit Atoms) both.0), at_most (length select.columns) 192 (passes _ (Limit Answer) both.1))

module _ (db : List Table) (select : Select) where
  pub is_query : (atoms : List Atom) (conds : List Cond) (answer : List ColRef) → Parts db select.tables select.columns select.conds atoms conds answer → 1 ≤ length select.tables → size_fault select ≡ None → IsQuery atoms conds answer
  is_query atoms conds answer parts some small =
      let few = few_tables select small in
      let many = as_many db select.tables atoms parts.are in
      let answers = zip_length (IsColumnOf db select.tables) select.columns answer parts.selected in
      record {
        size = (omega (arith, some, many), omega (arith, few.0, many));
        each = λ F inside. atom_is db (get_or select.tables F []) (nth_atom atoms F) (atom_of_name db select.tables atoms parts.are F inside);
        apart = atoms_apart db select.tables atoms parts.are parts.apart;
        few_answers = omega (arith, few.1, answers);
        conds_in_range = λ k h c g. let found = zip_found (IsCondOf db select.tables) select.conds conds k parts.meant h in cond_in_range db select.tables atoms parts.are found.1 k found.4 c g;
        answer_in_range = λ c h. let found = zip_found (IsColumnOf db select.tables) select.columns answer c parts.selected h in in_range db select.tables atoms parts.are found.1 c found.4;
      }

module _ (db : List Table) (names : List (List ℕ)) (q : Query) (are : AllZip (IsAtomOf db) names q.atoms) where
  pub kind_of_column : (written : RawCol) (col : ColRef) → IsColumnOf db names written col → column_fault db names written.table written.name ≡ None → kind_at q db col ≡ column_kind db names written
  kind_of_column written col is valid = kinds_stored db (nth_atom q.atoms col.atom).table col.col (table_of_column db names q.atoms are written col is) ∙ kind_found db names q.atoms are written col is valid

  kinds_agree : (number : ℕ) (written : RawCond) (cond : Cond) → IsCondOf db names written cond → cond_fault db names number written ≡ None → KindsAgree q db cond
  kinds_agree number (WrittenJoin left right) (Join l r) is valid =
      let one = both_none (column_fault db names left.table left.name) (first_of (column_fault db names right.table right.name) (kinds_fault number (column_kind db names left) (column_kind db names right))) valid in
      let two = both_none (column_fault db names right.table right.name) (kinds_fault number (column_kind db names left) (column_kind db names right)) one.1 in
      kind_of_column left l is.0 one.0 ∙ kinds_same number (column_kind db names left) (column_kind db names right) two.1 ∙ sym (kind_of_column right r is.1 two.0)
  kinds_agree number (WrittenJoin left right) (Test col op value) is valid = absurd is
  kinds_agree number (WrittenTest col op value) (Join l r) is valid = absurd is
  kinds_agree number (WrittenTest col op value) (Test c o v) is valid =
      let both = both_none (column_fault db names col.table col.name) (kinds_fault number (column_kind db names col) (kind_of value)) valid in
      kind_of_column col c is.0 both.0 ∙ kinds_same number (column_kind db names col) (kind_of value) both.1 ∙ ap kind_of (sym is.2)

-- the query of the parts
pub query_of : (db : List Table) → IsDatabase db → (select : Select) (q : Query) → Parts db select.tables select.columns select.conds q.atoms q.conds q.answer → IsQueryOf db select q
query_of db valid select q parts =
    let of : (F : ℕ) → F < length q.atoms → IsAtomOf db (get_or select.tables F []) (nth_atom q.atoms F) = atom_of_name db select.tables q.atoms parts.are in
    let within : (F : ℕ) → F < length q.atoms → (nth_atom q.atoms F).table < length db = λ F inside. table_there db (get_or select.tables F []) (nth_atom q.atoms F).table (of F inside).table in
    record {
      atoms = parts.are;
      conds = parts.meant;
      answer = parts.selected;
      fits = record {
        there = within;
        width = λ F inside. (of F inside).width ∙ wide db (nth_atom q.atoms F).table (within F inside);
        keyed = λ F inside. (of F inside).key;
        marked = λ F inside. (of F inside).mark;
        strict = λ F inside. strict-consistent db valid q F (within F inside) (of F inside).key (of F inside).mark;
        kinds = λ k h.
            let found = zip_found (IsCondOf db select.tables) select.conds q.conds k parts.meant h in
            let passes = passes_at (fault_by_number (cond_fault db select.tables)) select.conds found.0 found.1 parts.sound found.2 in
            kinds_agree db select.tables q parts.are (length (take found.0 select.conds) + 1) found.1 k found.4
            (ap (cond_fault db select.tables (length (take found.0 select.conds) + 1)) (sym found.3) ∙ passes);
      };
    }
