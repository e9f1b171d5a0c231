-- The names of a witness's rows, and rows that are kept together.
use Rattle.std.proofs.Common.{◌≡◌, ◌<◌, inl, inr, ℕ, zero, suc, List, [], ◌∷◌, length, get_or, Some, refl, sym, ◌∙◌, ap, subst, arith, Contains, slice_get, le_of_suc-le-suc}
use Rattle.std.proofs.lemmas.List.{length-map}
use Rattle.std.proofs.lemmas.List.Elements.{Contains-get_or}
use Rattle.std.proofs.lemmas.Option.{slice_get_within, slice_get-get_or, get_or_from_slice_get}
use native.Mathlib.Decide.{ℕ_discrete}
use Rattle.cqa_value.specs.declared.value.Value.{Value}
use Rattle.cqa_value.proofs.Words.{mem-head, mem-tail, mem-nil, mem-cases, member_place, dec_both}
use Rattle.cqa_model.specs.declared.query.Atom.{Atom}
use Rattle.cqa_model.specs.declared.query.RowId.{RowId}
use Rattle.cqa_model.specs.Shape.{nth_atom}
use Rattle.cqa_model.specs.Database.{Table, stored, keys_of}
use Rattle.cqa_model.specs.Repairs.{SharesKey, HasOne, IsRepair}
use Rattle.cqa_model.proofs.Classic.{mem-eq, dec_some}
use Rattle.cqa_model.proofs.Values.{row_discrete}
use Rattle.cqa_model.proofs.Repairs.{shares-sym}
use Rattle.cqa_model.proofs.Preferring.{preferring}
use Rattle.join_access.specs.Witnesses.{AreNamedRows}
use Rattle.table_blocks.specs.Tables.{AreStored}
use Rattle.row_witnesses.specs.Columns.{place_at}
use Rattle.rows_against.specs.Against.{row_named, KeepsName, AreOfDifferentBlocks}

-- the row of an atom of a witness has a name
pub record IsOwn (db : List Table) (atoms : List Atom) (ids : List RowId) (w : List (List Value)) (F : ℕ) (own : RowId) : Type 0 where
  pub there : F < length atoms
  pub table : own.table ≡ (nth_atom atoms F).table
  pub place : own.place ≡ place_at ids F
  pub row : slice_get (get_or (stored db) own.table []) own.place ≡ Some (get_or w F [])

module _ (db : List Table) where
  later : (a : Atom) (atoms : List Atom) (x : RowId) (ids : List RowId) (r : List Value) (w : List (List Value)) (F : ℕ) (own : RowId) → IsOwn db atoms ids w F own → IsOwn db (a ∷ atoms) (x ∷ ids) (r ∷ w) (suc F) own
  later a atoms x ids r w F own h = record { there = let l = h.there in omega (arith, l); table = h.table; place = h.place; row = h.row }

  first : (a : Atom) (atoms : List Atom) (x : RowId) (ids : List RowId) (r : List Value) (w : List (List Value)) → AreNamedRows db (a ∷ atoms) (x ∷ ids) (r ∷ w) → IsOwn db (a ∷ atoms) (x ∷ ids) (r ∷ w) 0 x
  first a atoms x ids r w h = record { there = omega arith; table = h.0; place = refl; row = h.1 }

  -- each name is that of an atom's row
  pub own_of : (atoms : List Atom) (ids : List RowId) (w : List (List Value)) → AreNamedRows db atoms ids w → (own : RowId) → Contains ids own → (F : ℕ) × IsOwn db atoms ids w F own
  own_of [] [] w h own m = absurd (mem-nil own m)
  own_of [] (x ∷ ids) [] h own m = absurd h
  own_of [] (x ∷ ids) (r ∷ w) h own m = absurd h
  own_of (a ∷ atoms) [] [] h own m = absurd h
  own_of (a ∷ atoms) [] (r ∷ w) h own m = absurd h
  own_of (a ∷ atoms) (x ∷ ids) [] h own m = absurd h
  own_of (a ∷ atoms) (x ∷ ids) (r ∷ w) h own m = elim (mem-cases own x ids m) [
    | inl e ↦ (0, subst (λ y. IsOwn db (a ∷ atoms) (x ∷ ids) (r ∷ w) 0 y) e (first a atoms x ids r w h))
    | inr n ↦ let o = own_of atoms ids w h.2 own n in (suc o.0, later a atoms x ids r w o.0 own o.1)
  ]

  -- each atom's row has a name
  pub own_at : (atoms : List Atom) (ids : List RowId) (w : List (List Value)) → AreNamedRows db atoms ids w → (F : ℕ) → F < length atoms → (own : RowId) × Contains ids own × IsOwn db atoms ids w F own
  own_at [] ids w h F l = absurd (omega (arith, l))
  own_at (a ∷ atoms) [] [] h F l = absurd h
  own_at (a ∷ atoms) [] (r ∷ w) h F l = absurd h
  own_at (a ∷ atoms) (x ∷ ids) [] h F l = absurd h
  own_at (a ∷ atoms) (x ∷ ids) (r ∷ w) h zero l = (x, mem-head x ids, first a atoms x ids r w h)
  own_at (a ∷ atoms) (x ∷ ids) (r ∷ w) h (suc F) l = let o = own_at atoms ids w h.2 F (le_of_suc-le-suc l) in (o.0, mem-tail o.0 x ids o.1, later a atoms x ids r w F o.0 o.2)

  -- the place of an atom's row is within its table
  pub own_there : (atoms : List Atom) (ids : List RowId) (w : List (List Value)) → AreNamedRows db atoms ids w → (F : ℕ) → F < length atoms → place_at ids F < length (get_or (stored db) (nth_atom atoms F).table [])
  own_there atoms ids w h F l =
      let o = own_at atoms ids w h F l in
      let there = slice_get_within (get_or (stored db) o.0.table []) o.0.place (get_or w F []) o.2.row in
      subst (λ p. p < length (get_or (stored db) (nth_atom atoms F).table [])) o.2.place (subst (λ t. o.0.place < length (get_or (stored db) t [])) o.2.table there)

  -- stored rows of the atoms' tables have names
  pub named : (atoms : List Atom) (w : List (List Value)) → length w ≡ length atoms → ((F : ℕ) → F < length atoms → Contains (get_or (stored db) (nth_atom atoms F).table []) (get_or w F [])) → (ids : List RowId) × AreNamedRows db atoms ids w
  named [] [] size h = ([], tt)
  named [] (r ∷ w) size h = absurd (omega (arith, size))
  named (a ∷ atoms) [] size h = absurd (omega (arith, size))
  named (a ∷ atoms) (r ∷ w) size h =
      let rows = get_or (stored db) a.table [] in
      let p = member_place rows r [] (h 0 (omega arith)) in
      let rest = named atoms w (omega (arith, size)) (λ F l. h (suc F) (omega (arith, l))) in
      ((record { table = a.table; place = p.0 }) ∷ rest.0, (refl, slice_get-get_or rows p.0 [] p.1 ∙ ap Some p.2, rest.1))

  -- the row of a stored name
  pub row_read : (name : RowId) (r : List Value) → slice_get (get_or (stored db) name.table []) name.place ≡ Some r → row_named db name ≡ r
  row_read name r e = get_or_from_slice_get (get_or (stored db) name.table []) name.place r [] e

  pub row_there : (names : List RowId) → AreStored db names → (name : RowId) → Contains names name → slice_get (get_or (stored db) name.table []) name.place ≡ Some (row_named db name)
  row_there names s name m = slice_get-get_or (get_or (stored db) name.table []) name.place [] (s name m).1

  -- stored rows of different blocks are kept together by a repair
  module _ (names : List RowId) (s : AreStored db names) (apart : AreOfDifferentBlocks db names) where
    abbrev IsNamed : ℕ → List Value → Type 0
    IsNamed t x = (name : RowId) × Contains names name × ((name.table ≡ t) × (row_named db name ≡ x))

    dec_named : (t : ℕ) (x : List Value) → Dec (IsNamed t x)
    dec_named t x = dec_some (λ (name : RowId). (name.table ≡ t) × (row_named db name ≡ x)) (λ name. dec_both (ℕ_discrete name.table t) (row_discrete (row_named db name) x)) names

    pub kept_together : (kept : List (List (List Value))) × IsRepair db kept × ((name : RowId) → Contains names name → KeepsName db kept name)
    kept_together = together (preferring (keys_of db) (stored db) IsNamed dec_named)
      where
        together : (r : List (List (List Value))) × IsRepair db r × ((t : ℕ) → t < length (stored db) → (x z : List Value) → Contains (get_or (stored db) t []) x → IsNamed t x →
            Contains (get_or r t []) z → SharesKey (get_or (keys_of db) t []) z x → IsNamed t z) → (kept : List (List (List Value))) × IsRepair db kept × ((name : RowId) → Contains names name → KeepsName db kept name)
        together (r, repair, prefers) = (r, repair, λ name m. one name m (there name m) ((repair.each name.table (there name m)).one (row_named db name) (Contains-get_or (get_or (stored db) name.table []) name.place [] (s name m).1)))
          where
            there : (name : RowId) → Contains names name → name.table < length (stored db)
            there name m = let size = length-map db (λ (table : Table). table.rows) in let l = (s name m).0 in omega (arith, size, l)

            one : (name : RowId) → Contains names name → name.table < length (stored db) → HasOne (get_or (keys_of db) name.table []) (get_or r name.table []) (row_named db name) → KeepsName db r name
            one name m l o =
                let key = get_or (keys_of db) name.table [] in
                let other = prefers name.table l (row_named db name) o.row (Contains-get_or (get_or (stored db) name.table []) name.place [] (s name m).1) (name, m, (refl, refl)) o.is_kept (shares-sym key (row_named db name) o.row o.shares) in
                let same : name ≡ other.0 = apart name other.0 m other.1 (sym other.2.0, subst (λ z. SharesKey key (row_named db name) z) (sym other.2.1) o.shares) in
                let row : o.row ≡ row_named db name = sym other.2.1 ∙ ap (row_named db) (sym same) in
                mem-eq o.row (row_named db name) (get_or r name.table []) row o.is_kept
