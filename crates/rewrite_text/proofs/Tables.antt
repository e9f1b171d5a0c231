-- The tables that the statements of a certificate make: those of the query, in its order, without rows.
use Rattle.std.proofs.Common.{◌≡◌, ◌<◌, inl, inr, ℕ, zero, suc, false, List, [], ◌∷◌, Some, length, map, get_or, slice_get, refl, sym, ap, ◌∙◌, subst, arith}
use Rattle.std.proofs.lemmas.List.{length-map, get_or-map}
use Rattle.std.proofs.lemmas.Option.{slice_get-map, slice_get_cases}
use Rattle.std.specs.List.{AllZip}
use Rattle.std.specs.Option.{option_map}
use Rattle.cqa_value.proofs.Words.{Contains-from_map, Contains-slice_get}
use Rattle.cqa_model.specs.declared.query.Atom.{Atom}
use Rattle.cqa_model.specs.declared.query.ColRef.{ColRef}
use Rattle.cqa_model.specs.declared.query.Query.{Query}
use Rattle.cqa_model.specs.Database.{Table, IsTable, IsDatabase, names_of, row_total, column_kinds}
use Rattle.cqa_model.specs.Query.{FitsDatabase, atom_at}
use Rattle.cqa_model.specs.Shape.{IsInRange, column_at, nth_atom}
use Rattle.cqa_model.specs.Valid.{AreValid, IsName}
use Rattle.cqa_model.proofs.Places.{map-at, key-at, mark-at, kinds-at}
use Rattle.table_blocks.specs.Tables.{table_named, key_at, mark_at}
use Rattle.table_blocks.proofs.Changing.{without_rows}
use Rattle.query_resolve.specs.Names.{name_place, column_named, columns_at, atom_columns}
use Rattle.query_resolve.proofs.Queries.{wide}
use Rattle.query_resolve.proofs.Scopes.{columns-found, columns-named}
use Rattle.rewrite_text.specs.Texts.{name_at, atom_name, column_name_at}
use Rattle.reading_law.proofs.Resolved.{Differ, found, column_found}
use Rattle.reading_law.proofs.WrittenStatements.{columns_named as columns_have_names, column_named_at}
use Rattle.rewrite_text.proofs.Written.{written_tables, IsNamed}

-- the atom that stands where none is
abbrev pub no_atom : Atom
no_atom = record { table = 0; width = 0; key = []; strict = false }

-- the atoms are of these tables
abbrev pub AreTablesOf : List Table → List Atom → List Table → Type 0
AreTablesOf db atoms tables = AllZip (λ (atom : Atom) (table : Table). slice_get db atom.table ≡ Some table) atoms tables

-- a table without its rows
abbrev pub emptied : Table → Table
emptied table = record { schema = table.schema; rows = [] }

-- each atom of a query that fits has its table
pub tables_of : (db : List Table) (atoms : List Atom) → ((F : ℕ) → F < length atoms → (nth_atom atoms F).table < length db) → (tables : List Table) × AreTablesOf db atoms tables
tables_of db [] there = ([], tt)
tables_of db (atom ∷ atoms) there =
    let more = tables_of db atoms (λ F l. there (suc F) (omega (arith, l))) in
    elim (slice_get_cases db atom.table).1 [
      | inl h ↦ (h.0 ∷ more.0, (h.2, more.1))
      | inr h ↦ absurd (omega (arith, h.0, there 0 (omega arith)))
    ]

-- the table of an atom, by its place
record IsTableOf (db : List Table) (atom : Atom) (tables : List Table) (F : ℕ) (table : Table) : Type 0 where
  pub listed : slice_get tables F ≡ Some table
  pub stored : slice_get db atom.table ≡ Some table

nth_table : (db : List Table) (atoms : List Atom) (tables : List Table) → AreTablesOf db atoms tables → (F : ℕ) → F < length atoms → (table : Table) × IsTableOf db (nth_atom atoms F) tables F table
nth_table db [] tables are F l = absurd (omega (arith, l))
nth_table db (atom ∷ atoms) [] are F l = absurd are
nth_table db (atom ∷ atoms) (table ∷ tables) are zero l = (table, record { listed = refl; stored = are.0 })
nth_table db (atom ∷ atoms) (table ∷ tables) are (suc F) l = let more = nth_table db atoms tables are.1 F (omega (arith, l)) in (more.0, record { listed = more.1.listed; stored = more.1.stored })

pub as_many_tables : (db : List Table) (atoms : List Atom) (tables : List Table) → AreTablesOf db atoms tables → length tables ≡ length atoms
as_many_tables db [] [] are = refl
as_many_tables db [] (table ∷ tables) are = absurd are
as_many_tables db (atom ∷ atoms) [] are = absurd are
as_many_tables db (atom ∷ atoms) (table ∷ tables) are = ap suc (as_many_tables db atoms tables are.1)

names_made : (db : List Table) (atoms : List Atom) (tables : List Table) → AreTablesOf db atoms tables → names_of (map emptied tables) ≡ map (λ (atom : Atom). name_at db atom.table) atoms
names_made db [] [] are = refl
names_made db [] (table ∷ tables) are = absurd are
names_made db (atom ∷ atoms) [] are = absurd are
names_made db (atom ∷ atoms) (table ∷ tables) are =
    let e : table.schema.name ≡ name_at db atom.table = sym (map-at (λ (u : Table). u.schema.name) db atom.table table [] are.0) in
    let es = names_made db atoms tables are.1 in
    λ i. e i ∷ es i

no_rows : (tables : List Table) → row_total (map emptied tables) ≡ 0
no_rows [] = refl
no_rows (table ∷ tables) = omega (arith, no_rows tables)

module _ (db : List Table) (q : Query) (valid : IsDatabase db) (fits : FitsDatabase q db) (tables : List Table) (are : AreTablesOf db q.atoms tables) where
  -- the tables that are made
  abbrev pub own : List Table
  own = map emptied tables

  abbrev names : List (List ℕ)
  names = written_tables db q

  pub many_names : length names ≡ length q.atoms
  many_names = length-map q.atoms (λ (atom : Atom). name_at db atom.table)

  pub many_tables : length own ≡ length q.atoms
  many_tables = length-map tables emptied ∙ as_many_tables db q.atoms tables are

  pub own_names : names_of own ≡ names
  own_names = names_made db q.atoms tables are

  pub nth_name : (F : ℕ) → F < length q.atoms → get_or names F [] ≡ atom_name db q F
  nth_name F l = get_or-map (λ (atom : Atom). name_at db atom.table) q.atoms F no_atom [] l

  pub names_differ : Differ names
  names_differ i j a b e =
      let m = many_names in
      let la : i < length q.atoms = omega (arith, a, m) in
      let lb : j < length q.atoms = omega (arith, b, m) in
      q.kept.apart i j la lb (valid.names_differ (atom_at q i).table (atom_at q j).table (fits.there i la) (fits.there j lb) (sym (nth_name i la) ∙ e ∙ nth_name j lb))

  -- a table's name stands where its atom does
  pub name_found : (F : ℕ) → F < length q.atoms → name_place names (atom_name db q F) ≡ Some F
  name_found F l = found (λ (z : List ℕ). z) [] names F (atom_name db q F) (λ j m e. names_differ j F m (omega (arith, many_names, l)) (e ∙ sym (nth_name F l))) (omega (arith, many_names, l)) (nth_name F l)

  pub table_found : (F : ℕ) → F < length q.atoms → table_named own (atom_name db q F) ≡ Some F
  table_found F l = subst (λ ns. name_place ns (atom_name db q F) ≡ Some F) (sym own_names) (name_found F l)

  -- the table of an atom, stored and made
  pub record HasTable (F : ℕ) (table : Table) : Type 0 where
    pub stored : slice_get db (atom_at q F).table ≡ Some table
    pub made : slice_get own F ≡ Some (emptied table)

  pub table_of : (F : ℕ) → F < length q.atoms → (table : Table) × HasTable F table
  table_of F l = let h = nth_table db q.atoms tables are F l in (h.0, record { stored = h.1.stored; made = slice_get-map emptied tables F ∙ ap (option_map emptied) h.1.listed })

  pub own_columns : (F : ℕ) → F < length q.atoms → columns_at own F ≡ columns_at db (atom_at q F).table
  own_columns F l =
      let h = table_of F l in
      map-at (λ (u : Table). u.schema.columns) own F (emptied h.0) [] h.1.made ∙ sym (map-at (λ (u : Table). u.schema.columns) db (atom_at q F).table h.0 [] h.1.stored)

  pub own_keys : (F : ℕ) → F < length q.atoms → key_at own F ≡ key_at db (atom_at q F).table
  own_keys F l = let h = table_of F l in key-at own F (emptied h.0) h.1.made ∙ sym (key-at db (atom_at q F).table h.0 h.1.stored)

  pub own_marks : (F : ℕ) → F < length q.atoms → mark_at own F ≡ mark_at db (atom_at q F).table
  own_marks F l = let h = table_of F l in mark-at own F (emptied h.0) h.1.made ∙ sym (mark-at db (atom_at q F).table h.0 h.1.stored)

  pub own_kinds : (F : ℕ) → F < length q.atoms → get_or (column_kinds own) F [] ≡ get_or (column_kinds db) (atom_at q F).table []
  own_kinds F l = let h = table_of F l in kinds-at own F (emptied h.0) h.1.made ∙ sym (kinds-at db (atom_at q F).table h.0 h.1.stored)

  pub own_width : (F : ℕ) → F < length q.atoms → (atom_at q F).width ≡ length (columns_at own F)
  own_width F l = fits.width F l ∙ sym (wide db (atom_at q F).table (fits.there F l)) ∙ ap length (sym (own_columns F l))

  -- the columns that an atom's table has by its name
  pub scope_columns : (F : ℕ) → F < length q.atoms → atom_columns own names F ≡ columns_at own F
  scope_columns F l = columns-named own names (atom_name db q F) F (name_found F l) ∙ columns-found own (atom_name db q F) F (table_found F l)

  -- a column of an atom is found by its name
  pub place_found : (c : ColRef) → IsInRange q.atoms c → column_named (columns_at own c.atom) (column_name_at db (atom_at q c.atom).table c.col) ≡ Some c.col
  place_found c h =
      let t = table_of c.atom h.0 in
      let schema = t.0.schema in
      let here : columns_at own c.atom ≡ schema.columns = map-at (λ (u : Table). u.schema.columns) own c.atom (emptied t.0) [] t.1.made in
      let there : columns_at db (atom_at q c.atom).table ≡ schema.columns = map-at (λ (u : Table). u.schema.columns) db (atom_at q c.atom).table t.0 [] t.1.stored in
      let inside : c.col < length schema.columns = omega (arith, h.1, own_width c.atom h.0, ap length here) in
      ap (λ l. column_named l (column_name_at db (atom_at q c.atom).table c.col)) here ∙ ap (λ l. column_named schema.columns (column_at l c.col).name) there ∙ column_found schema.columns schema.key schema.kept c.col inside

  module _ (named : AreValid db) where
    pub table_has_name : (F : ℕ) → F < length q.atoms → IsName (atom_name db q F)
    table_has_name F l =
        let t = table_of F l in
        subst IsName (sym (map-at (λ (u : Table). u.schema.name) db (atom_at q F).table t.0 [] t.1.stored)) (named t.0 (Contains-slice_get db (atom_at q F).table t.0 t.1.stored)).names.name

    pub column_has_name : (c : ColRef) → IsInRange q.atoms c → IsNamed db q c
    column_has_name c h =
        let t = table_of c.atom h.0 in
        let schema = t.0.schema in
        let there : columns_at db (atom_at q c.atom).table ≡ schema.columns = map-at (λ (u : Table). u.schema.columns) db (atom_at q c.atom).table t.0 [] t.1.stored in
        let inside : c.col < length schema.columns = omega (arith, h.1, own_width c.atom h.0, ap length (own_columns c.atom h.0), ap length there) in
        let all = columns_have_names schema (named t.0 (Contains-slice_get db (atom_at q c.atom).table t.0 t.1.stored)).names in
        (table_has_name c.atom h.0, subst (λ l. IsName (column_at l c.col).name) (sym there) (column_named_at schema.columns c.col inside all))

  pub own_database : IsDatabase own
  own_database = record {
    few_tables = omega (arith, many_tables, q.kept.size.1);
    each = λ t m. let h = Contains-from_map emptied tables t m in subst IsTable h.2 (without_rows h.0.schema);
    names_differ = λ i j a b e. subst Differ (sym own_names) names_differ i j (omega (arith, a, length-map own (λ (t : Table). t.schema.name))) (omega (arith, b, length-map own (λ (t : Table). t.schema.name))) e;
    few_rows = omega (arith, no_rows tables);
  }
