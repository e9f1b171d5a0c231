-- The rows that are kept of all tables, as a repair of the database.
use Rattle.std.proofs.Common.{◌≡◌, ℕ, zero, suc, ◌<◌, Bool, List, [], ◌∷◌, length, get_or, refl, sym, subst, Contains}
use native.Mathlib.Decide.{ℕ_discrete}
use Rattle.std.proofs.lemmas.List.{length-map}
use Rattle.std.proofs.lemmas.List.Elements.{Contains-get_or}
use Rattle.cqa_value.specs.declared.value.Value.{Value}
use Rattle.cqa_model.specs.declared.query.Query.{Query}
use Rattle.cqa_model.specs.Database.{Table, stored}
use Rattle.cqa_model.specs.Repairs.{IsTableRepair, IsRepair}
use Rattle.cqa_model.specs.Query.{atom_at, rows_of, row_at, FitsDatabase}
use Rattle.cqa_model.specs.Plan.{Placed}
use Rattle.cqa_model.specs.Partial.{IsPartial}
use Rattle.cqa_model.proofs.Classic.{choose, dec_some}
use Rattle.cqa_model.proofs.Values.{dec_by}
use Rattle.cqa_model.proofs.Existence.{last_rows, last_rows-repair}
use Rattle.cqa_model.proofs.Views.{view-in_range}
use Rattle.repair_back.specs.Flags.{kept_of, kept_tables, flags_at, flags_of, tables_in, AreTablesOf, AreTableFlags, AreRepairFlags}
use Rattle.repair_back.proofs.Choosing.{choice-repair, kept_of-out}
use Rattle.repair_back.proofs.Starting.{table-in, query-tables, table-flags}
use Rattle.table_blocks.specs.Tables.{rows_at, key_at}

-- what is kept of one table
pub kept-table : (tables : List (List (List Value))) (flags : List (List Bool)) (t : ℕ) → get_or (kept_tables tables flags) t [] ≡ kept_of (get_or tables t []) (get_or flags t [])
kept-table [] flags t = refl
kept-table (rows ∷ tables) [] zero = none rows
  where
    none : (rows : List (List Value)) → [] ≡ kept_of rows []
    none [] = refl
    none (x ∷ xs) = refl
kept-table (rows ∷ tables) [] (suc t) = kept-table tables [] t
kept-table (rows ∷ tables) (f ∷ flags) zero = refl
kept-table (rows ∷ tables) (f ∷ flags) (suc t) = kept-table tables flags t

-- the rows kept of an atom's table
pub kept-atom : (q : Query) (db : List Table) (flags : List (List Bool)) (F : ℕ) → rows_of q (kept_tables (stored db) flags) F ≡ kept_of (rows_of q (stored db) F) (flags_of q flags F)
kept-atom q db flags F = kept-table (stored db) flags (atom_at q F).table

-- the rows of a witness that are kept are stored
pub stored-witness : (q : Query) (db : List Table) (flags : List (List Bool)) (row : List Value) (taken : List Placed) (w : List (List Value)) → IsPartial q row taken (kept_tables (stored db) flags) w → IsPartial q row taken (stored db) w
stored-witness q db flags row taken w h = record { size = h.size; keeps = λ F has. is F (h.keeps F has); holds = h.holds; answers = h.answers; extends = h.extends }
  where
    is : (F : ℕ) → Contains (rows_of q (kept_tables (stored db) flags) F) (row_at w F) → Contains (rows_of q (stored db) F) (row_at w F)
    is F m =
        let p = kept_of-out (rows_of q (stored db) F) (flags_of q flags F) (row_at w F) (subst (λ rows. Contains rows (row_at w F)) (kept-atom q db flags F) m) in
        subst (λ z. Contains (rows_of q (stored db) F) z) p.3 (Contains-get_or (rows_of q (stored db) F) p.0 [] p.1)

-- a witness looks at the atoms' tables alone
pub partial-same : (q : Query) (row : List Value) (taken : List Placed) (r s : List (List (List Value))) (w : List (List Value)) →
    ((F : ℕ) → F < length q.atoms → rows_of q s F ≡ rows_of q r F) → IsPartial q row taken r w → IsPartial q row taken s w
partial-same q row taken r s w same h = record {
  size = h.size;
  keeps = λ F has. subst (λ rows. Contains rows (row_at w F)) (sym (same F (view-in_range q taken F has))) (h.keeps F has);
  holds = h.holds;
  answers = h.answers;
  extends = h.extends;
}

-- whether a table is listed
dec_listed : (tables : List ℕ) (t : ℕ) → Dec (Contains tables t)
dec_listed tables t = dec_by (λ h. subst (Contains tables) h.2 h.1) (λ m. (t, m, refl)) (dec_some (λ u. u ≡ t) (λ u. ℕ_discrete u t) tables)

module _ (db : List Table) (tables : List ℕ) (are : AreTablesOf db tables) (flags : List (List Bool)) (chosen : AreTableFlags db tables flags) where
  -- there is a repair of the whole database that keeps these rows of the tables
  abbrev pub ShownOver : Type 0
  ShownOver = (r : List (List (List Value))) × IsRepair db r × ((t : ℕ) → Contains tables t → get_or r t [] ≡ get_or (kept_tables (stored db) flags) t [])

  abbrev Is : ℕ → List (List Value) → Type 0
  Is t rows = IsTableRepair (key_at db t) (rows_at db t) rows × (Contains tables t → rows ≡ get_or (kept_tables (stored db) flags) t [])

  of_table : (t : ℕ) → (rows : List (List Value)) × Is t rows
  of_table t = go (dec_listed tables t)
    where
      go : Dec (Contains tables t) → (rows : List (List Value)) × Is t rows
      go (yes m) = (
        get_or (kept_tables (stored db) flags) t [],
        (subst (λ rows. IsTableRepair (key_at db t) (rows_at db t) rows) (sym (kept-table (stored db) flags t)) (choice-repair (key_at db t) (rows_at db t) (flags_at flags t) (chosen.each t m)), λ k. refl),
      )
      go (no n) = (last_rows (key_at db t) (rows_at db t), (last_rows-repair (key_at db t) (rows_at db t), λ m. absurd (n m)))

  pub shown-over : ShownOver
  shown-over = make (choose [] (length (stored db)) Is (λ t l. of_table t))
    where
      make : (r : List (List (List Value))) × (length r ≡ length (stored db)) × ((t : ℕ) → t < length (stored db) → Is t (get_or r t [])) → ShownOver
      make (r, size, each) = (
        r,
        record { size = size; each = λ t l. (each t l).0 },
        λ t m. (each t (subst (λ n. t < n) (sym (length-map db (λ (table : Table). table.rows))) (are.there t m))).1 m,
      )

module _ (q : Query) (db : List Table) (fits : FitsDatabase q db) (flags : List (List Bool)) (chosen : AreRepairFlags q db flags) where
  -- the same for the tables of a query
  pub shown : (r : List (List (List Value))) × IsRepair db r × ((F : ℕ) → F < length q.atoms → rows_of q r F ≡ rows_of q (kept_tables (stored db) flags) F)
  shown = let s = shown-over db (tables_in q) (query-tables q db fits) flags (table-flags q db fits flags chosen) in (s.0, s.1, λ F l. s.2 (atom_at q F).table (table-in q db fits F l))
