-- The query that was written resolves, over the tables that were made, to the same query but for the places of its tables.
use Rattle.std.proofs.Common.{◌≡◌, ◌+◌, ◌<◌, ◌≤◌, nat_le, is_none, is_some, ℕ, zero, suc, true, List, [], ◌∷◌, Contains, Option, Some, None, length, map, get_or, refl, sym, ap, ◌∙◌, subst, arith, length-append}
use Rattle.std.proofs.Math.Seq.{get_or-append_seam}
use Rattle.std.proofs.lemmas.Bool.Decides.{nat_tests}
use Rattle.std.proofs.lemmas.List.{length-map, get_or_append_left}
use Rattle.std.proofs.lemmas.List.Elements.{Contains-append_right}
use Rattle.std.specs.List.{AllZip}
use Rattle.cqa_value.specs.declared.value.Kind.{Kind}
use Rattle.cqa_value.specs.declared.value.Kind.TheVariants.{Int}
use Rattle.cqa_value.specs.declared.value.Value.{Value}
use Rattle.cqa_value.specs.Values.{kind_of}
use Rattle.cqa_value.proofs.Words.{mem-head, mem-tail, Contains-from_map, map_alike}
use Rattle.cqa_model.specs.declared.query.Atom.{Atom}
use Rattle.cqa_model.specs.declared.query.ColRef.{ColRef}
use Rattle.cqa_model.specs.declared.query.Cond.{Cond}
use Rattle.cqa_model.specs.declared.query.Cond.TheVariants.{Join, Test}
use Rattle.cqa_model.specs.declared.query.Query.{Query}
use Rattle.cqa_model.specs.Database.{Table, IsDatabase, column_kinds}
use Rattle.cqa_model.specs.Query.{FitsDatabase, atom_at, kind_at}
use Rattle.cqa_model.specs.Shape.{IsInRange, IsQuery, columns_of, column_at, nth_atom}
use Rattle.refusals.specs.declared.refusal.Refusal.{Refusal}
use Rattle.refusals.specs.declared.refusal.Refusal.TheVariants.{UnknownTable, SelfJoin, TypeMismatch, Limit}
use Rattle.refusals.specs.declared.refusal.Place.TheVariants.{Condition}
use Rattle.refusals.specs.declared.refusal.LimitKind.TheVariants.{Atoms, Answer}
use Rattle.refusals.specs.Kinds.{same_kind, row_fault}
use Rattle.spj_syntax.specs.declared.tree.RawCol.{RawCol}
use Rattle.spj_syntax.specs.declared.tree.Select.{Select}
use Rattle.spj_syntax.specs.Limits.{most_items}
use Rattle.table_blocks.specs.Tables.{table_named}
use Rattle.query_resolve.specs.Checks.{fault_unless, fault_by_number, kinds_fault, from_fault, column_fault, column_kind, cond_fault, size_fault, select_fault, where_fault, query_fault, first_fault, answer_fault}
use Rattle.query_resolve.specs.Names.{name_place, column_named, atom_columns}
use Rattle.query_resolve.specs.Resolved.{IsAtomOf, IsColumnOf, IsCondOf, IsQueryOf}
use Rattle.query_resolve.proofs.Members.{neither}
use Rattle.query_resolve.proofs.Queries.{kinds_stored, Parts, is_query, query_of}
use Rattle.query_resolve.proofs.Scopes.{column_passes, kind_is}
use Rattle.block_tree.specs.Trees.{SameButPlaces}
use Rattle.rewrite_text.specs.Texts.{atom_name, column_name_at}
use Rattle.csv_rows.proofs.Fitting.{same_self}
use Rattle.reading_law.proofs.Resolved.{missing, none_fails, passing}
use Rattle.rewrite_text.proofs.Written.{written_column, written_condition, written_tables, written_select}
use Rattle.rewrite_text.proofs.Tables.{no_atom, AreTablesOf, own, many_names, nth_name, names_differ, name_found, table_found, own_columns, own_keys, own_marks, own_kinds, own_width, scope_columns, place_found, own_database}

-- two lists side by side, by their places
zip_from : {A B : Type 0} (R : A → B → Type 0) (xs : List A) (ys : List B) (d : A) (e : B) → length xs ≡ length ys → ((i : ℕ) → i < length xs → R (get_or xs i d) (get_or ys i e)) → AllZip R xs ys
zip_from R [] [] d e long each = tt
zip_from R [] (y ∷ ys) d e long each = absurd (omega (arith, long))
zip_from R (x ∷ xs) [] d e long each = absurd (omega (arith, long))
zip_from R (x ∷ xs) (y ∷ ys) d e long each = (each 0 (omega arith), zip_from R xs ys d e (omega (arith, long)) (λ i l. each (suc i) (omega (arith, l))))

-- what is made of members, beside them
pub zip_map : {A B : Type 0} (R : A → B → Type 0) (f : B → A) (xs : List B) → ((x : B) → Contains xs x → R (f x) x) → AllZip R (map f xs) xs
zip_map R f [] each = tt
zip_map R f (x ∷ xs) each = (each x (mem-head x xs), zip_map R f xs (λ y m. each y (mem-tail y x xs m)))

-- what is made of members passes a check, where it does so of each
map_passes : {A B : Type 0} (check : List A → A → Option Refusal) (f : B → A) (xs : List B) → ((front : List A) (x : B) → Contains xs x → check front (f x) ≡ None) → first_fault check [] (map f xs) ≡ None
map_passes check f xs each =
    none_fails check [] (map f xs) (λ front y back e.
    let h = Contains-from_map f xs y (subst (λ l. Contains l y) (sym e) (Contains-append_right front (y ∷ back) y (mem-head y back))) in
    subst (λ z. check front z ≡ None) h.2 (each front h.0 h.1))

-- atoms of the tables from a place on
abbrev renumbered : ℕ → List Atom → List Atom
renumbered at [] = []
renumbered at (atom ∷ atoms) = record atom { table = at } ∷ renumbered (suc at) atoms

many_renumbered : (at : ℕ) (atoms : List Atom) → length (renumbered at atoms) ≡ length atoms
many_renumbered at [] = refl
many_renumbered at (atom ∷ atoms) = ap suc (many_renumbered (suc at) atoms)

nth_renumbered : (at : ℕ) (atoms : List Atom) (F : ℕ) → F < length atoms → nth_atom (renumbered at atoms) F ≡ record (nth_atom atoms F) { table = at + F }
nth_renumbered at [] F l = absurd (omega (arith, l))
nth_renumbered at (atom ∷ atoms) zero l = ap (λ t. record atom { table = t }) (omega arith)
nth_renumbered at (atom ∷ atoms) (suc F) l = nth_renumbered (suc at) atoms F (omega (arith, l)) ∙ ap (λ t. record (nth_atom atoms F) { table = t }) (omega arith)

same_width : (at : ℕ) (atoms : List Atom) (F : ℕ) → (nth_atom (renumbered at atoms) F).width ≡ (nth_atom atoms F).width
same_width at [] F = refl
same_width at (atom ∷ atoms) zero = refl
same_width at (atom ∷ atoms) (suc F) = same_width (suc at) atoms F

same_key : (at : ℕ) (atoms : List Atom) (F : ℕ) → (nth_atom (renumbered at atoms) F).key ≡ (nth_atom atoms F).key
same_key at [] F = refl
same_key at (atom ∷ atoms) zero = refl
same_key at (atom ∷ atoms) (suc F) = same_key (suc at) atoms F

kinds_pass : (number : ℕ) (a b : Kind) → a ≡ b → kinds_fault number a b ≡ None
kinds_pass number a b e = passing (same_kind a b) (TypeMismatch (Condition number)) (subst (λ k. same_kind a k ≡ true) e (same_self a))

module _ (db : List Table) (q : Query) (valid : IsDatabase db) (fits : FitsDatabase q db) (tables : List Table) (are : AreTablesOf db q.atoms tables) where
  abbrev made : List Table
  made = own db q valid fits tables are

  abbrev names : List (List ℕ)
  names = written_tables db q

  abbrev atoms : List Atom
  atoms = renumbered 0 q.atoms

  nth_is : (F : ℕ) → F < length q.atoms → nth_atom atoms F ≡ record (atom_at q F) { table = F }
  nth_is F l = nth_renumbered 0 q.atoms F l ∙ ap (λ t. record (atom_at q F) { table = t }) (omega arith)

  atom_found : (F : ℕ) → F < length q.atoms → IsAtomOf made (atom_name db q F) (record (atom_at q F) { table = F })
  atom_found F l = record {
    table = table_found db q valid fits tables are F l;
    width = own_width db q valid fits tables are F l;
    key = fits.keyed F l ∙ sym (own_keys db q valid fits tables are F l);
    mark = fits.marked F l ∙ sym (own_marks db q valid fits tables are F l);
  }

  atoms_found : AllZip (IsAtomOf made) names atoms
  atoms_found =
      let many = many_names db q valid fits tables are in
      zip_from (IsAtomOf made) names atoms [] no_atom (many ∙ sym (many_renumbered 0 q.atoms)) (λ F l.
      let inside : F < length q.atoms = omega (arith, l, many) in
      subst (λ a. IsAtomOf made (get_or names F []) a) (sym (nth_is F inside)) (subst (λ n. IsAtomOf made n (record (atom_at q F) { table = F })) (sym (nth_name db q valid fits tables are F inside)) (atom_found F inside)))

  -- each name is that of a table, and stands once
  names_pass : first_fault (from_fault made) [] names ≡ None
  names_pass = none_fails (from_fault made) [] names (λ front name back e.
      let F = length front in
      let long : length names ≡ length front + length (name ∷ back) = ap length e ∙ length-append front (name ∷ back) in
      let inside : F < length q.atoms = omega (arith, long, many_names db q valid fits tables are) in
      let here : get_or names F [] ≡ name = ap (λ l. get_or l F []) e ∙ get_or-append_seam front name back [] in
      let is : atom_name db q F ≡ name = sym (nth_name db q valid fits tables are F inside) ∙ here in
      let there : table_named made name ≡ Some F = subst (λ n. table_named made n ≡ Some F) is (table_found db q valid fits tables are F inside) in
      let new : name_place front name ≡ None = missing (λ (z : List ℕ). z) [] front name (λ j l same.
      let early : get_or names j [] ≡ name = ap (λ z. get_or z j []) e ∙ get_or_append_left front (name ∷ back) [] j l ∙ same in
      let meet = names_differ db q valid fits tables are j F (omega (arith, long, l)) (omega (arith, long)) (early ∙ sym here) in
      omega (arith, meet, l)) in
      neither (fault_unless (is_some (table_named made name)) (UnknownTable name)) (fault_unless (is_none (name_place front name)) (SelfJoin name))
      (passing (is_some (table_named made name)) (UnknownTable name) (ap is_some there)) (passing (is_none (name_place front name)) (SelfJoin name) (ap is_none new)))

  column_is : (c : ColRef) → IsInRange q.atoms c → IsColumnOf made names (written_column db q c) c
  column_is c h = record {
    atom = name_found db q valid fits tables are c.atom h.0;
    place = subst (λ l. column_named l (column_name_at db (atom_at q c.atom).table c.col) ≡ Some c.col) (sym (scope_columns db q valid fits tables are c.atom h.0)) (place_found db q valid fits tables are c h);
  }

  column_fits : (c : ColRef) → IsInRange q.atoms c → column_fault made names (Some (atom_name db q c.atom)) (column_name_at db (atom_at q c.atom).table c.col) ≡ None
  column_fits c h = column_passes made names (atom_name db q c.atom) (column_name_at db (atom_at q c.atom).table c.col) c.atom (name_found db q valid fits tables are c.atom h.0) (atom_columns made names c.atom) refl c.col (column_is c h).place

  kind_found : (c : ColRef) → IsInRange q.atoms c → column_kind made names (written_column db q c) ≡ kind_at q db c
  kind_found c h =
      let is = column_is c h in
      sym (kind_is made names (Some (atom_name db q c.atom)) (column_name_at db (atom_at q c.atom).table c.col) c.atom c.col is.atom is.place (column_fits c h))
      ∙ ap (λ l. (column_at l c.col).kind) (scope_columns db q valid fits tables are c.atom h.0 ∙ own_columns db q valid fits tables are c.atom h.0)
      ∙ sym (kinds_stored db (atom_at q c.atom).table c.col (fits.there c.atom h.0))

  condition_is : (k : Cond) → ((c : ColRef) → Contains (columns_of k) c → IsInRange q.atoms c) → IsCondOf made names (written_condition db q k) k
  condition_is (Join left right) inside = (column_is left (inside left (mem-head left (right ∷ []))), column_is right (inside right (mem-tail right left (right ∷ []) (mem-head right []))))
  condition_is (Test col op value) inside = (column_is col (inside col (mem-head col [])), refl, refl)

  condition_passes : (number : ℕ) (k : Cond) → Contains q.conds k → ((c : ColRef) → Contains (columns_of k) c → IsInRange q.atoms c) → cond_fault made names number (written_condition db q k) ≡ None
  condition_passes number (Join left right) m inside =
      let l = inside left (mem-head left (right ∷ [])) in
      let r = inside right (mem-tail right left (right ∷ []) (mem-head right [])) in
      let kinds = kinds_pass number (column_kind made names (written_column db q left)) (column_kind made names (written_column db q right)) (kind_found left l ∙ fits.kinds (Join left right) m ∙ sym (kind_found right r)) in
      neither _ _ (column_fits left l) (neither _ _ (column_fits right r) kinds)
  condition_passes number (Test col op value) m inside =
      let c = inside col (mem-head col []) in
      neither _ _ (column_fits col c) (kinds_pass number (column_kind made names (written_column db q col)) (kind_of value) (kind_found col c ∙ fits.kinds (Test col op value) m))

  columns_pass : select_fault made names (map (written_column db q) q.answer) ≡ None
  columns_pass = map_passes (λ before (col : RawCol). column_fault made names col.table col.name) (written_column db q) q.answer (λ front c m. column_fits c (q.kept.answer_in_range c m))

  conditions_pass : where_fault made names (map (written_condition db q) q.conds) ≡ None
  conditions_pass = map_passes (fault_by_number (cond_fault made names)) (written_condition db q) q.conds (λ front k m. condition_passes (length front + 1) k m (q.kept.conds_in_range k m))

  parts : Parts made names (map (written_column db q) q.answer) (map (written_condition db q) q.conds) atoms q.conds q.answer
  parts = record {
    are = atoms_found;
    apart = names_pass;
    selected = zip_map (IsColumnOf made names) (written_column db q) q.answer (λ c m. column_is c (q.kept.answer_in_range c m));
    meant = zip_map (IsCondOf made names) (written_condition db q) q.conds (λ k m. condition_is k (q.kept.conds_in_range k m));
    sound = conditions_pass;
  }

  pub some_name : 1 ≤ length names
  some_name = omega (arith, many_names db q valid fits tables are, q.kept.size.0)

  module _ (few : length (map (written_condition db q) q.conds) ≤ most_items) where
    -- the select that is written
    abbrev pub select : Select
    select = written_select db q some_name few

    sizes_pass : size_fault select ≡ None
    sizes_pass =
        let many = many_names db q valid fits tables are in
        let size = q.kept.size.1 in
        let answers = q.kept.few_answers in
        let wide = length-map q.answer (written_column db q) in
        let a : nat_le (length names) 12 ≡ true = grind (arith, nat_tests) in
        let b : nat_le (length (map (written_column db q) q.answer)) 192 ≡ true = grind (arith, nat_tests) in
        neither (fault_unless (nat_le (length names) 12) (Limit Atoms)) (fault_unless (nat_le (length (map (written_column db q) q.answer)) 192) (Limit Answer))
        (passing (nat_le (length names) 12) (Limit Atoms) a) (passing (nat_le (length (map (written_column db q) q.answer)) 192) (Limit Answer) b)

    pub query_passes : query_fault made select ≡ None
    query_passes = neither _ _ sizes_pass (neither _ _ names_pass (neither _ _ columns_pass conditions_pass))

    pub kept : IsQuery atoms q.conds q.answer
    kept = is_query made select atoms q.conds q.answer parts some_name sizes_pass

    -- the query over the tables that are made
    abbrev pub own_query : Query
    own_query = record { atoms = atoms; conds = q.conds; answer = q.answer; kept = kept }

    pub query_is : IsQueryOf made select own_query
    query_is = query_of made (own_database db q valid fits tables are) select own_query parts

    pub same_query : SameButPlaces q own_query
    same_query = record { size = many_renumbered 0 q.atoms; widths = λ F. same_width 0 q.atoms F; keys = λ F. same_key 0 q.atoms F; conds = refl; answer = refl }

    own_kind : (c : ColRef) → Contains q.answer c → kind_at own_query made c ≡ kind_at q db c
    own_kind c m =
        let h = q.kept.answer_in_range c m in
        ap (λ (a : Atom). get_or (get_or (column_kinds made) a.table []) c.col Int) (nth_is c.atom h.0) ∙ ap (λ l. get_or l c.col Int) (own_kinds db q valid fits tables are c.atom h.0)

    pub row_passes : (row : List Value) → answer_fault db q row ≡ None → answer_fault made own_query row ≡ None
    row_passes row none = ap (λ kinds. row_fault kinds 1 row) (map_alike (kind_at own_query made) (kind_at q db) q.answer own_kind) ∙ none
