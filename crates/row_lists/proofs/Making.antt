-- The rows of a witness by their names, and the names of rows at places.
use Rattle.std.proofs.Common.{◌≡◌, ℕ, zero, suc, ◌<◌, List, [], ◌∷◌, length, get_or, Some, refl, ap, subst, arith, slice_get, slice_index_or, le_of_suc-le-suc, suc-le-suc}
use Rattle.cqa_value.specs.declared.value.Value.{Value}
use Rattle.cqa_model.specs.declared.query.Atom.{Atom}
use Rattle.cqa_model.specs.declared.query.Query.{Query}
use Rattle.cqa_model.specs.declared.query.RowId.{RowId}
use Rattle.cqa_model.specs.Shape.{nth_atom}
use Rattle.cqa_model.specs.Database.{Table, stored}
use Rattle.cqa_model.specs.Query.{rows_of, row_at, IsWitness}
use Rattle.cqa_model.proofs.Classic.{choose}
use Rattle.join_access.specs.Witnesses.{AreNamedRows}
use Rattle.join_access.specs.Listing.{places_of}
use Rattle.row_lists.specs.Lists.{name}
use Rattle.row_lists.proofs.Numbers.{place_of}

module _ (db : List Table) where
  pub named-each : (atoms : List Atom) (names : List RowId) (w : List (List Value)) → AreNamedRows db atoms names w → (F : ℕ) → F < length atoms →
      slice_get (slice_index_or (stored db) (nth_atom atoms F).table []) (get_or (places_of names) F 0) ≡ Some (get_or w F [])
  named-each [] names w h F l = absurd (omega (arith, l))
  named-each (a ∷ atoms) [] [] h F l = absurd h
  named-each (a ∷ atoms) [] (r ∷ w) h F l = absurd h
  named-each (a ∷ atoms) (x ∷ names) [] h F l = absurd h
  named-each (a ∷ atoms) (x ∷ names) (r ∷ w) h zero l = subst (λ t. slice_get (slice_index_or (stored db) t []) x.place ≡ Some r) h.0 h.1
  named-each (a ∷ atoms) (x ∷ names) (r ∷ w) h (suc F) l = named-each atoms names w h.2 F (le_of_suc-le-suc l)

  -- the names of the rows of atoms at places
  abbrev pub made : List Atom → List ℕ → List RowId
  made [] ps = []
  made (a ∷ atoms) [] = []
  made (a ∷ atoms) (p ∷ ps) = name a.table p ∷ made atoms ps

  pub made-places : (atoms : List Atom) (ps : List ℕ) → length ps ≡ length atoms → places_of (made atoms ps) ≡ ps
  made-places [] [] e = refl
  made-places [] (p ∷ ps) e = absurd (omega (arith, e))
  made-places (a ∷ atoms) [] e = absurd (omega (arith, e))
  made-places (a ∷ atoms) (p ∷ ps) e = ap (λ qs. p ∷ qs) (made-places atoms ps (omega (arith, e)))

  pub made-named : (atoms : List Atom) (ps : List ℕ) (w : List (List Value)) → length ps ≡ length atoms → length w ≡ length atoms →
      ((F : ℕ) → F < length atoms → slice_get (slice_index_or (stored db) (nth_atom atoms F).table []) (get_or ps F 0) ≡ Some (get_or w F [])) → AreNamedRows db atoms (made atoms ps) w
  made-named [] ps [] e l h = tt
  made-named [] ps (r ∷ w) e l h = absurd (omega (arith, l))
  made-named (a ∷ atoms) [] w e l h = absurd (omega (arith, e))
  made-named (a ∷ atoms) (p ∷ ps) [] e l h = absurd (omega (arith, l))
  made-named (a ∷ atoms) (p ∷ ps) (r ∷ w) e l h = (refl, h 0 (omega arith), made-named atoms ps w (omega (arith, e)) (omega (arith, l)) (λ F k. h (suc F) (suc-le-suc k)))

-- a witness has names
pub witness-names : (q : Query) (db : List Table) (row : List Value) (w : List (List Value)) → IsWitness q (stored db) row w → (names : List RowId) × AreNamedRows db q.atoms names w
witness-names q db row w hw = go (choose 0 (length q.atoms) IsPlace (λ F l. place F (place_of (rows_of q (stored db) F) (row_at w F) (hw.kept F l))))
  where
    IsPlace : ℕ → ℕ → Type 0
    IsPlace F p = slice_get (rows_of q (stored db) F) p ≡ Some (row_at w F)

    place : (F : ℕ) → ((p : ℕ) × (p < length (rows_of q (stored db) F)) × (slice_get (rows_of q (stored db) F) p ≡ Some (row_at w F))) → (p : ℕ) × IsPlace F p
    place F (p, l, e) = (p, e)

    go : ((ps : List ℕ) × (length ps ≡ length q.atoms) × ((F : ℕ) → F < length q.atoms → IsPlace F (get_or ps F 0))) → (names : List RowId) × AreNamedRows db q.atoms names w
    go (ps, size, each) = (made db q.atoms ps, made-named db q.atoms ps w size hw.size each)
