use Rattle.std.proofs.Common.{◌<◌, inl, inr, List, [], Contains, length, get_or, sym, ap, subst, arith}
use Rattle.std.proofs.lemmas.List.{length-map}
use Rattle.cqa_model.specs.Database.{stored}
use Rattle.cqa_model.specs.Query.{atom_key, rows_of}
use Rattle.join_access.specs.declared.witness.Witness.{Witness}
use Rattle.join_access.specs.Listing.{names_of}
use Rattle.row_witnesses.proofs.Told.{all_names}
use Rattle.row_lists.specs.Loose.{HasFreePlace, AreLoose, IsLooseAt}
use Rattle.row_lists.specs.Runs.{AreRowPlaces}
use Rattle.row_witnesses.specs.Columns.{place_at}
use Rattle.repair_clauses.proofs.Naming.{are_places, rows_long}
use Rattle.repair_clauses.proofs.avoiding.mark_atom.Goals as goal

pub loose_places-requires : goal.loose_places-requires
loose_places-requires c =
    let w = c.args.witnesses.now in
    let b = w.bound.now in
    subst (λ x. AreRowPlaces x c.column-places.result.now) (sym c.rows_of-rows.ensures.rows)
    (are_places b.query.now b.db.now w.row.now (names_of w.list) (all_names w) c.args.at c.requires.there c.column-places.result.now c.column-places.ensures.column)

pub mark_witnesses-requires-clause-rows : goal.mark_witnesses-requires-clause-rows
mark_witnesses-requires-clause-rows c =
    let w = c.args.witnesses.now in
    subst (λ (ws : List Witness). (x : Witness) → Contains ws x → c.args.at < length x.rows) (sym c.as_slice.ensures)
    (rows_long w.bound.now.query.now w.bound.now.db.now w.row.now w.list (all_names w) c.args.at c.requires.there)

pub returns-clause-marks : goal.returns-clause-marks
returns-clause-marks c = λ i l e.
    let w = c.args.witnesses.now in
    let b = w.bound.now in
    let n = c.args.at in
    let key = atom_key b.query.now n in
    let rows = rows_of b.query.now (stored b.db.now) n in
    let places = c.column-places.result.now in
    let names = get_or (names_of w.list) i [] in
    let size = length-map w.list (λ (x : Witness). x.rows) in
    let long = ap length c.as_slice.ensures in
    let marks = subst (AreLoose c.key_of-key.result.now c.rows_of-rows.result places) (sym c.as_slice-2.ensures.value) c.in_ok-loose.ensures.loose in
    let loose = subst (λ k. AreLoose k rows places c.as_slice-2.result.now) c.key_of-key.ensures (subst (λ rs. AreLoose c.key_of-key.result.now rs places c.as_slice-2.result.now) c.rows_of-rows.ensures.rows marks) in
    elim (c.mark_witnesses.ensures.marks i (omega (arith, l, size, long)) e) [
      | inl old ↦ c.requires.marks i l old
      | inr is ↦ (let at = subst (λ (xs : List Witness). IsLooseAt places c.as_slice-2.result.now (place_at (get_or (names_of xs) i []) n)) c.as_slice.ensures is in
          record { atom = n; there = c.requires.there; places = places; column = c.column-places.ensures.column; free = subst (HasFreePlace key rows places) at.2 (loose at.0 at.1 at.3) })
    ]
