-- Names of the rows of a witness: of which atom each is, and names that are exchanged for alike ones.
use Rattle.std.proofs.Common.{◌≡◌, ℕ, zero, suc, ◌<◌, inl, inr, List, [], ◌∷◌, length, get_or, map, refl, sym, ◌∙◌, ap, subst, arith, Contains, slice_index_or, le_of_suc-le-suc, suc-le-suc}
use Rattle.std.specs.List.{AllZip}
use Rattle.std.proofs.lemmas.Option.{slice_get-get_or, slice_get_within, get_or_from_slice_get}
use Rattle.cqa_value.specs.declared.value.Value.{Value}
use Rattle.cqa_model.specs.declared.query.Atom.{Atom}
use Rattle.cqa_model.specs.declared.query.RowId.{RowId}
use Rattle.cqa_model.specs.Shape.{nth_atom}
use Rattle.cqa_model.specs.Database.{Table, stored}
use Rattle.cqa_model.specs.Repairs.{SharesKey}
use Rattle.cqa_model.proofs.Classic.{mem-head, mem-tail, mem-nil, mem-cases}
use Rattle.join_access.specs.Witnesses.{AreNamedRows}
use Rattle.table_blocks.specs.Tables.{rows_at}
use Rattle.row_lists.specs.Lists.{named}
use Rattle.row_lists.specs.Classes.{AreAlikeBy}

module _ (db : List Table) where
  -- of which atom a name is
  pub named-id : (atoms : List Atom) (names : List RowId) (w : List (List Value)) → AreNamedRows db atoms names w → (id : RowId) → Contains names id →
      (F : ℕ) × (F < length atoms) × (id.table ≡ (nth_atom atoms F).table) × (named db id ≡ get_or w F [])
  named-id [] [] w h id m = absurd (mem-nil id m)
  named-id [] (x ∷ names) [] h id m = absurd h
  named-id [] (x ∷ names) (r ∷ w) h id m = absurd h
  named-id (a ∷ atoms) [] [] h id m = absurd h
  named-id (a ∷ atoms) [] (r ∷ w) h id m = absurd h
  named-id (a ∷ atoms) (x ∷ names) [] h id m = absurd h
  named-id (a ∷ atoms) (x ∷ names) (r ∷ w) h id m = elim (mem-cases id x names m) [
    | inl e ↦ subst (λ z. (F : ℕ) × (F < length (a ∷ atoms)) × (z.table ≡ (nth_atom (a ∷ atoms) F).table) × (named db z ≡ get_or (r ∷ w) F [])) e
        (0, omega arith, h.0, get_or_from_slice_get (slice_index_or (stored db) x.table []) x.place r [] h.1)
    | inr n ↦ (let k = named-id atoms names w h.2 id n in (suc k.0, suc-le-suc k.1, k.2, k.3))
  ]

  -- and that it is that of a stored row
  pub named-place : (atoms : List Atom) (names : List RowId) (w : List (List Value)) → AreNamedRows db atoms names w → (id : RowId) → Contains names id →
      (F : ℕ) × (F < length atoms) × (id.table ≡ (nth_atom atoms F).table) × (id.place < length (rows_at db id.table))
  named-place [] [] w h id m = absurd (mem-nil id m)
  named-place [] (x ∷ names) [] h id m = absurd h
  named-place [] (x ∷ names) (r ∷ w) h id m = absurd h
  named-place (a ∷ atoms) [] [] h id m = absurd h
  named-place (a ∷ atoms) [] (r ∷ w) h id m = absurd h
  named-place (a ∷ atoms) (x ∷ names) [] h id m = absurd h
  named-place (a ∷ atoms) (x ∷ names) (r ∷ w) h id m = elim (mem-cases id x names m) [
    | inl e ↦ subst (λ z. (F : ℕ) × (F < length (a ∷ atoms)) × (z.table ≡ (nth_atom (a ∷ atoms) F).table) × (z.place < length (rows_at db z.table))) e
        (0, omega arith, h.0, slice_get_within (rows_at db x.table) x.place r h.1)
    | inr n ↦ (let k = named-place atoms names w h.2 id n in (suc k.0, suc-le-suc k.1, k.2, k.3))
  ]

  -- and which name an atom has
  pub named-at : (atoms : List Atom) (names : List RowId) (w : List (List Value)) → AreNamedRows db atoms names w → (F : ℕ) → F < length atoms →
      (id : RowId) × Contains names id × (id.table ≡ (nth_atom atoms F).table) × (named db id ≡ get_or w F [])
  named-at [] names w h F l = absurd (omega (arith, l))
  named-at (a ∷ atoms) [] [] h F l = absurd h
  named-at (a ∷ atoms) [] (r ∷ w) h F l = absurd h
  named-at (a ∷ atoms) (x ∷ names) [] h F l = absurd h
  named-at (a ∷ atoms) (x ∷ names) (r ∷ w) h zero l = (x, mem-head x names, h.0, get_or_from_slice_get (slice_index_or (stored db) x.table []) x.place r [] h.1)
  named-at (a ∷ atoms) (x ∷ names) (r ∷ w) h (suc F) l = let k = named-at atoms names w h.2 F (le_of_suc-le-suc l) in (k.0, mem-tail k.0 x names k.1, k.2, k.3)

  -- names of a witness that are exchanged for alike ones
  module _ (columns : ℕ → List ℕ) where
    pub renamed : (atoms : List Atom) (names others : List RowId) (w : List (List Value)) → AreNamedRows db atoms names w → AllZip (AreAlikeBy db columns) names others → AreNamedRows db atoms others (map (named db) others)
    renamed [] [] [] [] h z = tt
    renamed [] [] (y ∷ others) w h z = absurd z
    renamed [] [] [] (r ∷ w) h z = absurd h
    renamed [] (x ∷ names) others [] h z = absurd h
    renamed [] (x ∷ names) others (r ∷ w) h z = absurd h
    renamed (a ∷ atoms) [] others [] h z = absurd h
    renamed (a ∷ atoms) [] others (r ∷ w) h z = absurd h
    renamed (a ∷ atoms) (x ∷ names) others [] h z = absurd h
    renamed (a ∷ atoms) (x ∷ names) [] (r ∷ w) h z = absurd z
    renamed (a ∷ atoms) (x ∷ names) (y ∷ others) (r ∷ w) h z =
        (sym z.0.one_table ∙ h.0, slice_get-get_or (rows_at db y.table) y.place [] z.0.there.1, renamed atoms names others w h.2 z.1)

    pub alike-at : (atoms : List Atom) (names others : List RowId) (w : List (List Value)) → AreNamedRows db atoms names w → AllZip (AreAlikeBy db columns) names others → (F : ℕ) → F < length atoms →
        SharesKey (columns (nth_atom atoms F).table) (get_or w F []) (get_or (map (named db) others) F [])
    alike-at [] names others w h z F l = absurd (omega (arith, l))
    alike-at (a ∷ atoms) [] others [] h z F l = absurd h
    alike-at (a ∷ atoms) [] others (r ∷ w) h z F l = absurd h
    alike-at (a ∷ atoms) (x ∷ names) others [] h z F l = absurd h
    alike-at (a ∷ atoms) (x ∷ names) [] (r ∷ w) h z F l = absurd z
    alike-at (a ∷ atoms) (x ∷ names) (y ∷ others) (r ∷ w) h z zero l =
        let is : named db x ≡ r = get_or_from_slice_get (slice_index_or (stored db) x.table []) x.place r [] h.1 in
        subst (λ u. SharesKey (columns a.table) u (named db y)) is (subst (λ t. SharesKey (columns t) (named db x) (named db y)) h.0 z.0.agree)
    alike-at (a ∷ atoms) (x ∷ names) (y ∷ others) (r ∷ w) h z (suc F) l = alike-at atoms names others w h.2 z.1 F (le_of_suc-le-suc l)

    pub zip-long : (atoms : List Atom) (names others : List RowId) (w : List (List Value)) → AreNamedRows db atoms names w → AllZip (AreAlikeBy db columns) names others → length (map (named db) others) ≡ length atoms
    zip-long [] [] [] [] h z = refl
    zip-long [] [] (y ∷ others) w h z = absurd z
    zip-long [] [] [] (r ∷ w) h z = absurd h
    zip-long [] (x ∷ names) others [] h z = absurd h
    zip-long [] (x ∷ names) others (r ∷ w) h z = absurd h
    zip-long (a ∷ atoms) [] others [] h z = absurd h
    zip-long (a ∷ atoms) [] others (r ∷ w) h z = absurd h
    zip-long (a ∷ atoms) (x ∷ names) others [] h z = absurd h
    zip-long (a ∷ atoms) (x ∷ names) [] (r ∷ w) h z = absurd z
    zip-long (a ∷ atoms) (x ∷ names) (y ∷ others) (r ∷ w) h z = ap suc (zip-long atoms names others w h.2 z.1)
