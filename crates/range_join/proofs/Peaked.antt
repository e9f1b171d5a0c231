-- The least and the greatest value of the witnesses that a repair has: those of the places of the rows that it keeps.
use Rattle.std.proofs.Common.{◌≡◌, ℕ, ◌<◌, List, [], ◌∷◌, length, map, filter, Contains, refl, sym, ◌∙◌, ap, subst}
use Rattle.std.proofs.lemmas.Option.{get_or_from_slice_get}
use Rattle.cqa_value.specs.declared.value.Value.{Value}
use Rattle.cqa_value.proofs.Words.{Contains-map, Contains-from_map, mem-head, mem-nil}
use Rattle.aggregate_range.specs.declared.aggregate.End.{End}
use Rattle.aggregate_range.specs.declared.aggregate.End.TheVariants.{Empty, Number, Held}
use Rattle.cqa_model.specs.declared.query.Query.{Query}
use Rattle.cqa_model.specs.declared.query.RowId.{RowId}
use Rattle.cqa_model.specs.Database.{Table, IsDatabase, stored}
use Rattle.cqa_model.specs.Query.{atom_at, rows_of, row_at, FitsDatabase}
use Rattle.cqa_model.specs.Repairs.{IsRepair}
use Rattle.row_witnesses.specs.Columns.{place_at}
use Rattle.range_ask.specs.declared.range.Range.{Range}
use Rattle.range_ask.specs.Ranges.{cell, AtMost, HasValue, IsUpTo}
use Rattle.range_join.specs.declared.carriers.Extreme.{Extreme}
use Rattle.range_join.specs.declared.carriers.Extreme.TheVariants.{Least, Greatest}
use Rattle.range_join.specs.Extremes.{goal_by}
use Rattle.range_join.specs.Firsts.{AreSpots}
use Rattle.range_join.specs.Joins.{AreWitnessesIn, IsPartAttained, IsPartRange}
use Rattle.range_join.specs.Parts.{AreNamesIn}
use Rattle.range_join.specs.Peaks.{given_by, GivesValue, HasSome, HasEnd, ArePeaks, EndPlaces}
use Rattle.range_join.specs.Worths.{AreOthersStrict, named_row}
use Rattle.range_join.proofs.Adding.{has}
use Rattle.range_join.proofs.Named.{own_at}
use Rattle.range_join.proofs.Kept.{stored_for, witness-kept, kept-named, kept-witnesses}
use Rattle.range_join.proofs.Ranged.{kept-at, places-kept}
use Rattle.range_join.proofs.Spots.{spots-in_order, spots-below}
use Rattle.table_blocks.specs.Tables.{rows_in, names_in}

module _ (db : List Table) (q : Query) (fits : FitsDatabase q db) (base : IsDatabase db) (lax : ℕ) (strict : AreOthersStrict q lax) (in_q : lax < length q.atoms) (Of : List (List Value) → Type 0) (part : List (List RowId)) (h : AreNamesIn db q Of part)
    (atom : ℕ) (of_q : atom < length q.atoms) (col : ℕ) where
  abbrev pub gives : ℕ → Value → Type 0
  gives p v = GivesValue (rows_of q (stored db) atom) part lax atom col p v

  -- the value that a witness gives is that of its row
  pub given-is : (names : List RowId) → Contains part names → given_by (rows_of q (stored db) atom) atom col names ≡ cell (row_at (map (named_row db) names) atom) col
  given-is names m =
      let row = (own_at db q.atoms names (map (named_row db) names) (stored_for db q fits base lax strict in_q Of part h names m).1 atom of_q).row in
      ap (λ r. cell r col) (get_or_from_slice_get (rows_of q (stored db) atom) (place_at names atom) (row_at (map (named_row db) names) atom) [] row)

  module _ (kept : List (List (List Value))) (repair : IsRepair db kept) (ys : List ℕ) (below : (y : ℕ) → Contains ys y → y < length (rows_of q (stored db) lax)) (is : rows_of q kept lax ≡ rows_in (rows_of q (stored db) lax) ys) where
    module _ (ws : List (List (List Value))) (are : AreWitnessesIn q Of kept ws) where
      abbrev rows : List (List Value)
      rows = map (λ w. row_at w atom) ws

      some-to : (v : Value) → HasSome gives ys v → (row : List Value) × Contains rows row × (cell row col ≡ v)
      some-to v (p, mp, (names, m, at, value)) =
          let w = map (named_row db) names in
          let k = witness-kept db q fits base lax strict in_q Of part h kept repair ys below is names m (subst (Contains ys) (sym at) mp) in
          (row_at w atom, Contains-map (λ (w : List (List Value)). row_at w atom) ws w ((are.exactly w).1 (k, ((h.exactly names).0 m).1)), sym (given-is names m) ∙ value)

      some-from : (row : List Value) → Contains rows row → HasSome gives ys (cell row col)
      some-from row m =
          let w = Contains-from_map (λ (w : List (List Value)). row_at w atom) ws row m in
          let o = (are.exactly w.0).0 w.1 in
          let n = kept-named db q fits base lax strict in_q Of part h kept repair ys below is w.0 o.0 o.1 in
          let row_is : row_at (map (named_row db) n.0) atom ≡ row = ap (λ v. row_at v atom) n.3 ∙ w.2 in
          (place_at n.0 lax, n.2, (n.0, n.1, refl, given-is n.0 n.1 ∙ ap (λ r. cell r col) row_is))

      -- no witness gives a value, and there is none
      none : (rs : List (List Value)) → ((row : List Value) → Contains rs row → ⊥) → rs ≡ []
      none [] f = refl
      none (r ∷ rs) f = absurd (f r (mem-head r rs))

      pub end-value : (way : Extreme) (end : End) → HasEnd way gives ys end → HasValue (goal_by way col) rows end
      end-value Least Empty e = none rows (λ row m. e (cell row col) (some-from row m))
      end-value Least (Number n) e = absurd e
      end-value Least (Held v) e = (some-to v e.0, λ row m. e.1 (cell row col) (some-from row m))
      end-value Greatest Empty e = none rows (λ row m. e (cell row col) (some-from row m))
      end-value Greatest (Number n) e = absurd e
      end-value Greatest (Held v) e = (some-to v e.0, λ row m. e.1 (cell row col) (some-from row m))

      pub value-end : (way : Extreme) (end : End) → HasValue (goal_by way col) rows end → HasEnd way gives ys end
      value-end Least Empty e = λ v s. let r = some-to v s in mem-nil r.0 (subst (λ rs. Contains rs r.0) e r.1)
      value-end Least (Number n) e = absurd e
      value-end Least (Held v) e = (
        subst (HasSome gives ys) e.0.2 (some-from e.0.0 e.0.1),
        λ u s. let r = some-to u s in subst (λ z. AtMost v z) r.2 (e.1 r.0 r.1),
      )
      value-end Greatest Empty e = λ v s. let r = some-to v s in mem-nil r.0 (subst (λ rs. Contains rs r.0) e r.1)
      value-end Greatest (Number n) e = absurd e
      value-end Greatest (Held v) e = (
        subst (HasSome gives ys) e.0.2 (some-from e.0.0 e.0.1),
        λ u s. let r = some-to u s in subst (λ z. AtMost z v) r.2 (e.1 r.0 r.1),
      )

  module _ (way : Extreme) (ends : EndPlaces) (are : ArePeaks db (atom_at q lax).table way gives ends) where
    attained : (places : List ℕ) → AreSpots db (atom_at q lax).table places → (end : End) → HasEnd way gives places end →
        IsPartAttained db q lax Of (record { goal = goal_by way col; atom = atom }) (names_in (atom_at q lax).table places) end
    attained places spots end e =
        let k = kept-at db q fits base lax strict in_q are.parted places spots in
        let below = spots-below db (atom_at q lax).table are.parted places spots in
        let ws = map (map (named_row db)) (filter (λ names. has places (place_at names lax)) part) in
        let witnesses = kept-witnesses db q fits base lax strict in_q Of part h k.0 k.1 places below k.2 in
        record {
          places = places;
          named = refl;
          rises = spots-in_order db (atom_at q lax).table are.parted places spots;
          kept = k.0;
          repair = k.1;
          rows = k.2;
          value = record { ws = ws; are = witnesses; value = end-value k.0 k.1 places below k.2 ws witnesses way end e };
        }

    -- their ends are the ends of a range
    pub peaked : (range : Range) → range.least ≡ ends.least → range.low ≡ names_in (atom_at q lax).table ends.low → range.greatest ≡ ends.greatest → range.high ≡ names_in (atom_at q lax).table ends.high → IsPartRange db q lax Of (record { goal = goal_by way col; atom = atom }) range
    peaked range least-is low-is greatest-is high-is = record {
      from = subst (λ e. IsPartAttained db q lax Of (record { goal = goal_by way col; atom = atom }) range.low e) (sym least-is)
          (subst (λ names. IsPartAttained db q lax Of (record { goal = goal_by way col; atom = atom }) names ends.least) (sym low-is) (attained ends.low are.low_there ends.least are.least_is));
      to = subst (λ e. IsPartAttained db q lax Of (record { goal = goal_by way col; atom = atom }) range.high e) (sym greatest-is)
          (subst (λ names. IsPartAttained db q lax Of (record { goal = goal_by way col; atom = atom }) names ends.greatest) (sym high-is) (attained ends.high are.high_there ends.greatest are.greatest_is));
      between = λ kept end repair v.
          let p = places-kept db q fits base lax strict in_q are.parted kept repair in
          let below = spots-below db (atom_at q lax).table are.parted p.0 p.1 in
          let b = are.between p.0 end p.1 (value-end kept repair p.0 below (sym p.2) v.ws v.are way end v.value) in
          (subst (λ e. IsUpTo e end) (sym least-is) b.0, subst (λ e. IsUpTo end e) (sym greatest-is) b.1);
    }
