-- From the names of rows to their places, and back.
use Rattle.std.proofs.Common.{◌≡◌, ℕ, ◌<◌, List, [], length, get_or, map, Some, sym, ◌∙◌, ap, subst, arith, Contains}
use Rattle.std.proofs.lemmas.Option.{slice_get_within, slice_get-get_or, get_or_from_slice_get}
use Rattle.std.proofs.lemmas.List.{length-map, get_or-map}
use Rattle.std.proofs.lemmas.List.Elements.{Contains-get_or}
use Rattle.cqa_value.specs.declared.value.Value.{Value}
use Rattle.cqa_value.proofs.Words.{Contains-map, Contains-from_map}
use Rattle.cqa_model.specs.declared.query.Query.{Query}
use Rattle.cqa_model.specs.declared.query.RowId.{RowId}
use Rattle.cqa_model.specs.Database.{Table, stored}
use Rattle.cqa_model.specs.Query.{rows_of, row_at}
use Rattle.join_access.specs.Witnesses.{AreNamedRows}
use Rattle.join_access.specs.declared.witness.Witness.{Witness}
use Rattle.join_access.specs.Listing.{AreNamesOf, AreAllNames, names_of, places_of}
use Rattle.join_access.proofs.Naming.{name}
pub use Rattle.row_witnesses.proofs.Columns.{named-size}
use Rattle.row_lists.proofs.Making.{named-each, made, made-places, made-named}
use Rattle.row_lists.specs.Clauses.{AreAllLists}
use Rattle.row_witnesses.specs.Columns.{place_at}
use Rattle.repair_clauses.specs.Spans.{IsPlacedWitness}
use Rattle.row_lists.specs.Runs.{AreRowPlaces}
use Rattle.row_witnesses.specs.Columns.{AreColumn}

module _ (q : Query) (db : List Table) (row : List Value) where
  pub of_names : (names : List RowId) → AreNamesOf q db row names → IsPlacedWitness q db row (places_of names)
  of_names names n = record {
    rows = n.0;
    witness = n.1;
    size = length-map names (λ (x : RowId). x.place) ∙ named-size db q.atoms names n.0 n.2;
    each = λ F l.
        let g = named-each db q.atoms names n.0 n.2 F l in
        (slice_get_within (rows_of q (stored db) F) (place_at names F) (row_at n.0 F) g, get_or_from_slice_get (rows_of q (stored db) F) (place_at names F) (row_at n.0 F) [] g);
  }

  module _ (all : List (List RowId)) (h : AreAllNames q db row all) where
    pub placed : AreAllLists (IsPlacedWitness q db row) (map places_of all)
    placed = record {
      in_order = h.in_order;
      exactly = λ ps. (
        λ m. let p = Contains-from_map places_of all ps m in subst (IsPlacedWitness q db row) p.2 (of_names p.0 ((h.exactly p.0).0 p.1)),
        λ p.
            let n : AreNamedRows db q.atoms (made db q.atoms ps) p.rows = made-named db q.atoms ps p.rows p.size p.witness.size
            (λ F l. slice_get-get_or (rows_of q (stored db) F) (get_or ps F 0) [] (p.each F l).0 ∙ ap Some (p.each F l).1) in
            subst (λ qs. Contains (map places_of all) qs) (made-places db q.atoms ps p.size) (Contains-map places_of all (made db q.atoms ps) ((h.exactly (made db q.atoms ps)).1 (p.rows, p.witness, n))),
      );
    }

    pub are_places : (F : ℕ) → F < length q.atoms → (places : List ℕ) → AreColumn all F places → AreRowPlaces (rows_of q (stored db) F) places
    are_places F lF places c = record {
      in_order = c.in_order;
      there = λ i l.
          let f = c.from (get_or places i 0) (Contains-get_or places i 0 l) in
          subst (λ n. n < length (rows_of q (stored db) F)) f.2 ((of_names f.0 ((h.exactly f.0).0 f.1)).each F lF).0;
    }

pub place_read : (names : List RowId) (F : ℕ) → F < length names → (get_or names F (name 0 0)).place ≡ place_at names F
place_read names F l = sym (get_or-map (λ (y : RowId). y.place) names F (name 0 0) 0 l)

pub rows_long : (q : Query) (db : List Table) (row : List Value) (ws : List Witness) → AreAllNames q db row (names_of ws) → (F : ℕ) → F < length q.atoms → (w : Witness) → Contains ws w → F < length w.rows
rows_long q db row ws all F l w k =
    let n = (all.exactly w.rows).0 (Contains-map (λ (x : Witness). x.rows) ws w k) in
    let size = named-size db q.atoms w.rows n.0 n.2 in
    omega (arith, size, l)
