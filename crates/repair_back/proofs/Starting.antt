-- Flags for each of some tables, and the first of each block.
use Rattle.std.proofs.Common.{◌≡◌, ℕ, zero, suc, ◌+◌, ◌<◌, ◌≤◌, ◌≢◌, ◌⊎◌, inl, inr, Bool, false, List, [], ◌∷◌, ◌++◌, length, get_or, set, take, map, replicate, refl, ap, sym, ◌∙◌, subst, arith, Contains, length-set, get_or-set_same, get_or-set_other, length-append}
use native.Mathlib.Decide.{ℕ_discrete}
use Rattle.std.proofs.lemmas.Bool.{false≢true}
use Rattle.std.proofs.lemmas.List.{length-map, map-append, length-replicate, length-take-le, get_or-take, take_all, take_more}
use Rattle.std.proofs.lemmas.List.Elements.{Contains-get_or, Contains-push_cases, Contains-append_left, Contains-append_right}
use Rattle.cqa_value.proofs.Words.{Contains-map, Contains-from_map, member_place, mem-head, mem-nil}
use Rattle.cqa_model.specs.declared.query.Atom.{Atom}
use Rattle.cqa_model.specs.declared.query.Query.{Query}
use Rattle.cqa_model.specs.Database.{Table, stored}
use Rattle.cqa_model.specs.Query.{atom_at, rows_of, FitsDatabase}
use Rattle.cqa_model.specs.Shape.{AreDistinct, nth_atom}
use Rattle.repair_back.specs.Flags.{IsFlagged, HasOneFlagEach, flags_at, flags_of, tables_in, AreTablesOf, AreTableFlags, AreRepairFlags, AreLong, AreBlank}
use Rattle.cqa_model.specs.Blocks.{IsPick}
use Rattle.table_blocks.specs.Tables.{rows_at, key_at}

-- ---- tables without a flag that is set

-- the tables before one have flags
pub record BlankTo (db : List Table) (tables : List ℕ) (table : ℕ) (flags : List (List Bool)) : Type 0 where
  pub size : length flags ≡ table
  pub long : (t : ℕ) → Contains tables t → t < table → length (flags_at flags t) ≡ length (rows_at db t)
  pub none : (t p : ℕ) → IsFlagged (flags_at flags t) p → ⊥

flags-end : (xs : List (List Bool)) (f : List Bool) (t : ℕ) → ((t < length xs) × (get_or (xs ++ f ∷ []) t [] ≡ get_or xs t [])) ⊎ (((t ≡ length xs) × (get_or (xs ++ f ∷ []) t [] ≡ f)) ⊎ ((length xs < t) × (get_or (xs ++ f ∷ []) t [] ≡ [])))
flags-end [] f zero = inr (inl (refl, refl))
flags-end [] f (suc t) = inr (inr (omega arith, refl))
flags-end (x ∷ xs) f zero = inl (omega arith, refl)
flags-end (x ∷ xs) f (suc t) = elim (flags-end xs f t) [
  | inl (l, e) ↦ inl (omega (arith, l), e)
  | inr h ↦ elim h [ inl (e, g) ↦ inr (inl (ap suc e, g)) | inr (l, g) ↦ inr (inr (omega (arith, l), g)) ]
]

none-false : (n p : ℕ) → IsFlagged (replicate n false) p → ⊥
none-false zero p f = false≢true f
none-false (suc n) zero f = false≢true f
none-false (suc n) (suc p) f = none-false n p f

module _ (db : List Table) (tables : List ℕ) where
  pub blank-none : (flags : List (List Bool)) → flags ≡ [] → BlankTo db tables 0 flags
  blank-none flags e = record {
    size = ap length e;
    long = λ t m l. absurd (omega (arith, l));
    none = λ t p f. false≢true (subst (λ (fs : List (List Bool)). IsFlagged (flags_at fs t) p) e f);
  }

  abbrev Ends : List (List Bool) → List Bool → ℕ → Type 0
  Ends flags f t = ((t < length flags) × (flags_at (flags ++ f ∷ []) t ≡ flags_at flags t)) ⊎ (((t ≡ length flags) × (flags_at (flags ++ f ∷ []) t ≡ f)) ⊎ ((length flags < t) × (flags_at (flags ++ f ∷ []) t ≡ [])))

  pub blank-more : (table : ℕ) (flags new : List (List Bool)) (count : ℕ) (f : List Bool) → BlankTo db tables table flags → f ≡ replicate count false → new ≡ flags ++ f ∷ [] →
      (Contains tables table → count ≡ length (rows_at db table)) → BlankTo db tables (table + 1) new
  blank-more table flags new count f h is e counts = subst (λ fs. BlankTo db tables (table + 1) fs) (sym e) (record {
    size = let size = h.size in length-append flags (f ∷ []) ∙ (let z : length flags + 1 ≡ table + 1 = omega (arith, size) in z);
    long = λ t m l. long t m l (flags-end flags f t);
    none = λ t p m. none t p m (flags-end flags f t);
  })
    where
      long : (t : ℕ) → Contains tables t → t < table + 1 → Ends flags f t → length (flags_at (flags ++ f ∷ []) t) ≡ length (rows_at db t)
      long t m l (inl (b, g)) = ap length g ∙ h.long t m (subst (λ n. t < n) h.size b)
      long t m l (inr (inl (b, g))) = ap length (g ∙ is) ∙ length-replicate count false ∙ subst (λ u. count ≡ length (rows_at db u)) (sym (b ∙ h.size)) (counts (subst (Contains tables) (b ∙ h.size) m))
      long t m l (inr (inr (b, g))) = absurd (let size = h.size in omega (arith, l, b, size))

      none : (t p : ℕ) → IsFlagged (flags_at (flags ++ f ∷ []) t) p → Ends flags f t → ⊥
      none t p m (inl (b, g)) = h.none t p (subst (λ z. IsFlagged z p) g m)
      none t p m (inr (inl (b, g))) = none-false count p (subst (λ z. IsFlagged z p) (g ∙ is) m)
      none t p m (inr (inr (b, g))) = false≢true (subst (λ z. IsFlagged z p) g m)

  pub blank-all : (flags : List (List Bool)) (table : ℕ) → AreTablesOf db tables → table ≡ length db → BlankTo db tables table flags → AreBlank db tables flags
  blank-all flags table are e h = record {
    long = record { size = h.size ∙ e; each = λ t m. h.long t m (let there = are.there t m in omega (arith, there, e)) };
    none = h.none;
  }

-- ---- the first of each block

-- a table doesn't stand before its place
not-before : (tables : List ℕ) → AreDistinct tables → (at : ℕ) → at < length tables → Contains (take at tables) (get_or tables at 0) → ⊥
not-before tables apart at l m =
    let p = member_place (take at tables) (get_or tables at 0) 0 m in
    let size = length-take-le at tables (omega (arith, l)) in
    let low = p.1 in
    let before : p.0 < at = omega (arith, low, size) in
    let same = apart p.0 at (omega (arith, before, l)) l (sym (get_or-take at tables p.0 0 before) ∙ p.2) in
    absurd (omega (arith, same, before))

-- the tables before a place are settled
pub record AllSettledTo (db : List Table) (tables : List ℕ) (old flags : List (List Bool)) (at : ℕ) : Type 0 where
  pub size : length flags ≡ length db
  pub chosen : (t : ℕ) → Contains (take at tables) t → HasOneFlagEach (key_at db t) (rows_at db t) (flags_at flags t)
  pub picks : (t : ℕ) → Contains (take at tables) t → (p : ℕ) → IsFlagged (flags_at flags t) p → IsPick (key_at db t) (rows_at db t) (IsFlagged (flags_at old t)) p
  pub later : (t : ℕ) → (Contains (take at tables) t → ⊥) → flags_at flags t ≡ flags_at old t

module _ (db : List Table) (tables : List ℕ) (old : List (List Bool)) where
  pub all-none : AreLong db tables old → AllSettledTo db tables old old 0
  all-none long = record {
    size = long.size;
    chosen = λ t m. absurd (mem-nil t m);
    picks = λ t m. absurd (mem-nil t m);
    later = λ t n. refl;
  }

  pub all-more : (flags : List (List Bool)) (at : ℕ) (table : ℕ) → AreTablesOf db tables → at < length tables → table ≡ get_or tables at 0 → AllSettledTo db tables old flags at → (f : List Bool) →
      HasOneFlagEach (key_at db table) (rows_at db table) f → ((p : ℕ) → IsFlagged f p → IsPick (key_at db table) (rows_at db table) (IsFlagged (flags_at flags table)) p) →
      AllSettledTo db tables old (set flags table f) (at + 1)
  all-more flags at table are la is h f choice picks = record {
    size = length-set flags table f ∙ h.size;
    chosen = λ t m. chosen t m (ℕ_discrete t table);
    picks = λ t m p k. picked t m p k (ℕ_discrete t table);
    later = λ t n. other t (λ e. n (subst (λ u. Contains (take (at + 1) tables) u) (sym e) here_in)) ∙ h.later t (λ m. n (earlier t m));
  }
    where
      grown : take (at + 1) tables ≡ take at tables ++ table ∷ []
      grown = take_more tables at 0 la ∙ ap (λ x. take at tables ++ x ∷ []) (sym is)

      earlier : (t : ℕ) → Contains (take at tables) t → Contains (take (at + 1) tables) t
      earlier t m = subst (λ xs. Contains xs t) (sym grown) (Contains-append_left (take at tables) (table ∷ []) t m)

      here_in : Contains (take (at + 1) tables) table
      here_in = subst (λ xs. Contains xs table) (sym grown) (Contains-append_right (take at tables) (table ∷ []) table (mem-head table []))

      before : (t : ℕ) → Contains (take (at + 1) tables) t → t ≢ table → Contains (take at tables) t
      before t m ne = elim (Contains-push_cases (take at tables) table t (subst (λ xs. Contains xs t) grown m)) [ inl b ↦ b | inr e ↦ absurd (ne (sym e)) ]

      fresh : Contains (take at tables) table → ⊥
      fresh m = not-before tables are.apart at la (subst (Contains (take at tables)) is m)

      lt : table < length flags
      lt = let there = are.there table (subst (Contains tables) (sym is) (Contains-get_or tables at 0 la)) in let size = h.size in omega (arith, there, size)

      here : flags_at (set flags table f) table ≡ f
      here = let l : table < length flags = lt in rw get_or-set_same

      other : (t : ℕ) → t ≢ table → flags_at (set flags table f) t ≡ flags_at flags t
      other t ne = rw get_or-set_other

      chosen : (t : ℕ) → Contains (take (at + 1) tables) t → Dec (t ≡ table) → HasOneFlagEach (key_at db t) (rows_at db t) (flags_at (set flags table f) t)
      chosen t m (no ne) = subst (λ g. HasOneFlagEach (key_at db t) (rows_at db t) g) (sym (other t ne)) (h.chosen t (before t m ne))
      chosen t m (yes e) = subst (λ u. HasOneFlagEach (key_at db u) (rows_at db u) (flags_at (set flags table f) u)) (sym e) (subst (λ g. HasOneFlagEach (key_at db table) (rows_at db table) g) (sym here) choice)

      picked : (t : ℕ) → Contains (take (at + 1) tables) t → (p : ℕ) → IsFlagged (flags_at (set flags table f) t) p → Dec (t ≡ table) → IsPick (key_at db t) (rows_at db t) (IsFlagged (flags_at old t)) p
      picked t m p k (no ne) = h.picks t (before t m ne) p (subst (λ g. IsFlagged g p) (other t ne) k)
      picked t m p k (yes e) = subst (λ u. IsPick (key_at db u) (rows_at db u) (IsFlagged (flags_at old u)) p) (sym e)
          (subst (λ g. IsPick (key_at db table) (rows_at db table) (IsFlagged g) p) (h.later table fresh)
          (picks p (subst (λ g. IsFlagged g p) here (subst (λ u. IsFlagged (flags_at (set flags table f) u) p) e k))))

  -- the flags of the next table are as they were
  pub all-long : (flags : List (List Bool)) (at : ℕ) (table : ℕ) → AreTablesOf db tables → AreLong db tables old → at < length tables → table ≡ get_or tables at 0 → AllSettledTo db tables old flags at →
      length (flags_at flags table) ≡ length (rows_at db table)
  all-long flags at table are long la is h =
      ap length (h.later table (λ m. not-before tables are.apart at la (subst (Contains (take at tables)) is m)))
      ∙ long.each table (subst (Contains tables) (sym is) (Contains-get_or tables at 0 la))

  module _ (flags : List (List Bool)) (at : ℕ) (e : length tables ≤ at) (h : AllSettledTo db tables old flags at) where
    all-in : (t : ℕ) → Contains tables t → Contains (take at tables) t
    all-in t m = subst (λ xs. Contains xs t) (sym (take_all at tables e)) m

    pub all-chosen : AreTableFlags db tables flags
    all-chosen = record { size = h.size; each = λ t m. h.chosen t (all-in t m) }

    pub all-picks : (t : ℕ) → Contains tables t → (p : ℕ) → IsFlagged (flags_at flags t) p → IsPick (key_at db t) (rows_at db t) (IsFlagged (flags_at old t)) p
    all-picks t m = h.picks t (all-in t m)

-- ---- the tables of a query

-- one atom more
pub tables-push : (atoms : List Atom) (i : ℕ) (atom : Atom) → i < length atoms → atom ≡ get_or atoms i atom → map (λ (a : Atom). a.table) (take (i + 1) atoms) ≡ map (λ (a : Atom). a.table) (take i atoms) ++ atom.table ∷ []
tables-push atoms i atom l is =
    ap (λ xs. map (λ (a : Atom). a.table) xs) (take_more atoms i atom l ∙ ap (λ a. take i atoms ++ a ∷ []) (sym is)) ∙ map-append (λ (a : Atom). a.table) (take i atoms) (atom ∷ [])

module _ (q : Query) (db : List Table) (fits : FitsDatabase q db) where
  pub table-in : (F : ℕ) → F < length q.atoms → Contains (tables_in q) (atom_at q F).table
  table-in F l = Contains-map (λ (a : Atom). a.table) q.atoms (atom_at q F) (Contains-get_or q.atoms F (record { table = 0; width = 0; key = []; strict = false }) l)

  -- each is that of an atom
  pub in-table : (t : ℕ) → Contains (tables_in q) t → (F : ℕ) × (F < length q.atoms) × ((atom_at q F).table ≡ t)
  in-table t m =
      let a = Contains-from_map (λ (a : Atom). a.table) q.atoms t m in
      let p = member_place q.atoms a.0 (record { table = 0; width = 0; key = []; strict = false }) a.1 in
      (p.0, p.1, ap (λ (a : Atom). a.table) p.2 ∙ a.2)

  pub query-tables : AreTablesOf db (tables_in q)
  query-tables = record {
    there = λ t m. let p = in-table t m in subst (λ u. u < length db) p.2 (fits.there p.0 p.1);
    apart = λ i j li lj e. q.kept.apart i j (within i li) (within j lj) (sym (at i li) ∙ e ∙ at j lj);
  }
    where
      within : (i : ℕ) → i < length (tables_in q) → i < length q.atoms
      within i l = subst (λ n. i < n) (length-map q.atoms (λ (a : Atom). a.table)) l

      at : (i : ℕ) → i < length (tables_in q) → get_or (tables_in q) i 0 ≡ (atom_at q i).table
      at i l = table-at q.atoms i
        where
          table-at : (atoms : List Atom) (i : ℕ) → get_or (map (λ (a : Atom). a.table) atoms) i 0 ≡ (nth_atom atoms i).table
          table-at [] i = refl
          table-at (a ∷ atoms) zero = refl
          table-at (a ∷ atoms) (suc i) = table-at atoms i

  -- flags of its tables are flags of its atoms
  pub atom-flags : (flags : List (List Bool)) → AreTableFlags db (tables_in q) flags → AreRepairFlags q db flags
  atom-flags flags h = record {
    size = h.size;
    each = λ F l. subst (λ key. HasOneFlagEach key (rows_of q (stored db) F) (flags_of q flags F)) (sym (fits.keyed F l)) (h.each (atom_at q F).table (table-in F l));
  }

  pub table-flags : (flags : List (List Bool)) → AreRepairFlags q db flags → AreTableFlags db (tables_in q) flags
  table-flags flags h = record { size = h.size; each = λ t m. go t (in-table t m) }
    where
      go : (t : ℕ) → ((F : ℕ) × (F < length q.atoms) × ((atom_at q F).table ≡ t)) → HasOneFlagEach (key_at db t) (rows_at db t) (flags_at flags t)
      go t (F, l, e) = subst (λ u. HasOneFlagEach (key_at db u) (rows_at db u) (flags_at flags u)) e
          (subst (λ key. HasOneFlagEach key (rows_of q (stored db) F) (flags_of q flags F)) (fits.keyed F l) (h.each F l))
