-- Which sums are the ends of a range.
use Rattle.std.proofs.Common.{◌≡◌, ℕ, ◌<◌, List, length, refl, sym, ◌∙◌, ap, subst, arith}
use Rattle.std.specs.Prelude.{ℤ, ◌≤ℤ◌}
use Rattle.std.proofs.lemmas.List.{length-map}
use Rattle.aggregate_range.specs.declared.aggregate.End.{End}
use Rattle.aggregate_range.specs.declared.aggregate.End.TheVariants.{Number}
use Rattle.cqa_value.specs.declared.value.Value.{Value}
use Rattle.cqa_model.specs.declared.query.Query.{Query}
use Rattle.cqa_model.specs.declared.query.RowId.{RowId}
use Rattle.cqa_model.specs.Database.{Table, IsDatabase, stored, keys_of}
use Rattle.cqa_model.specs.Query.{atom_at, rows_of, FitsDatabase}
use Rattle.cqa_model.specs.Repairs.{IsRepair}
use Rattle.range_ask.specs.Picks.{IsInBlocks}
use Rattle.range_ask.specs.Ranges.{IsUpTo}
use Rattle.range_ask.specs.Walking.{IsTotal}
use Rattle.range_ask.specs.declared.range.Range.{Range}
use Rattle.range_ask.proofs.Lists.{zip-map}
use Rattle.range_join.specs.declared.sought.Sought.{Sought}
use Rattle.range_join.specs.Bounds.{IsLeastOf, IsMostOf, AreLeastPlaces, AreMostPlaces, IsSumRange}
use Rattle.range_join.specs.Firsts.{blocks_at, spans_at, AreSpots, StandsIn}
use Rattle.range_join.specs.Joins.{HasJoinValue, IsPartAttained, IsPartRange}
use Rattle.range_join.specs.Parts.{AreNamesIn}
use Rattle.range_join.specs.Worths.{AreOthersStrict, sum_of, worth_at, adds}
use Rattle.range_join.proofs.Spots.{repair-at, spots-of, spots-in_order, spots-below}
use Rattle.range_join.proofs.Extended.{extended}
use Rattle.range_join.proofs.Adding.{sum-alike}
use Rattle.range_join.proofs.Bounded.{lowest, highest}
use Rattle.range_join.proofs.Counted.{kept-value, value-kept}
use Rattle.table_blocks.specs.Tables.{rows_in, names_in}

module _ (db : List Table) (q : Query) (fits : FitsDatabase q db) (base : IsDatabase db) (lax : ℕ) (strict : AreOthersStrict q lax) (in_q : lax < length q.atoms) (parted : IsInBlocks db (atom_at q lax).table (blocks_at db (atom_at q lax).table)) where
  table : ℕ
  table = (atom_at q lax).table

  there : table < length (stored db)
  unfolding table
  there = let size = length-map db (λ (table : Table). table.rows) in let t = fits.there lax in_q in omega (arith, size, t)

  -- a repair that keeps the rows at one place of each block
  pub kept-at : (places : List ℕ) → AreSpots db (atom_at q lax).table places → (kept : List (List (List Value))) × IsRepair db kept × (rows_of q kept lax ≡ rows_in (rows_of q (stored db) lax) places)
  unfolding table
  kept-at places spots = extended (keys_of db) (stored db) (atom_at q lax).table there (rows_in (rows_of q (stored db) lax) places) (repair-at db (atom_at q lax).table parted places spots)

  -- each repair keeps such
  pub places-kept : (kept : List (List (List Value))) → IsRepair db kept → (places : List ℕ) × AreSpots db (atom_at q lax).table places × (rows_in (rows_of q (stored db) lax) places ≡ rows_of q kept lax)
  unfolding table
  places-kept kept repair = spots-of db (atom_at q lax).table parted (rows_of q kept lax) (repair.each (atom_at q lax).table there)

  module _ (Of : List (List Value) → Type 0) (part : List (List RowId)) (h : AreNamesIn db q Of part) (sought : Sought) (of_q : sought.atom < length q.atoms) (adding : IsTotal sought.goal) where
    abbrev pub sum_at : List ℕ → ℤ
    sum_at places = sum_of (worth_at (adds db sought) lax part) places

    pub attained : (places : List ℕ) → AreSpots db (atom_at q lax).table places → IsPartAttained db q lax Of sought (names_in (atom_at q lax).table places) (Number (sum_at places))
    attained places spots =
        let k = kept-at places spots in
        record {
          places = places;
          named = refl;
          rises = spots-in_order db (atom_at q lax).table parted places spots;
          kept = k.0;
          repair = k.1;
          rows = k.2;
          value = kept-value db q fits base lax strict in_q Of part h sought of_q k.0 k.1 places (spots-in_order db (atom_at q lax).table parted places spots) (spots-below db (atom_at q lax).table parted places spots) k.2 adding;
        }

    pub sum-of_value : (kept : List (List (List Value))) (end : End) → IsRepair db kept → HasJoinValue q Of sought kept end → (places : List ℕ) × AreSpots db (atom_at q lax).table places × (end ≡ Number (sum_at places))
    sum-of_value kept end repair v =
        let p = places-kept kept repair in (
          p.0,
          p.1,
          value-kept db q fits base lax strict in_q Of part h sought of_q kept repair p.0 (spots-in_order db (atom_at q lax).table parted p.0 p.1) (spots-below db (atom_at q lax).table parted p.0 p.1) (sym p.2) adding end v,
        )

    -- by what each row adds
    module _ (w : ℕ → ℤ) (are : (p : ℕ) → p < length (rows_of q (stored db) lax) → w p ≡ worth_at (adds db sought) lax part p) where
      numbers-sum : (places : List ℕ) → AreSpots db (atom_at q lax).table places → sum_of w places ≡ sum_at places
      numbers-sum places spots = sum-alike w (worth_at (adds db sought) lax part) places (λ p m. are p (spots-below db (atom_at q lax).table parted places spots p m))

      least-spots : (places : List ℕ) → AreLeastPlaces w db (atom_at q lax).table places → AreSpots db (atom_at q lax).table places
      least-spots places h = zip-map (IsLeastOf w) StandsIn (λ span p f. f.there) (spans_at db (atom_at q lax).table) places h.each

      most-spots : (places : List ℕ) → AreMostPlaces w db (atom_at q lax).table places → AreSpots db (atom_at q lax).table places
      most-spots places h = zip-map (IsMostOf w) StandsIn (λ span p f. f.there) (spans_at db (atom_at q lax).table) places h.each

      -- places of least and of greatest worth are the ends of a range
      pub ranged : (low high : List ℕ) → AreLeastPlaces w db (atom_at q lax).table low → AreMostPlaces w db (atom_at q lax).table high → (range : Range) →
          IsSumRange w (atom_at q lax).table low high range → IsPartRange db q lax Of sought range
      ranged low high l m range r =
          let sl = least-spots low l in
          let sm = most-spots high m in
          let from : range.least ≡ Number (sum_at low) = r.least ∙ ap Number (numbers-sum low sl) in
          let to : range.greatest ≡ Number (sum_at high) = r.greatest ∙ ap Number (numbers-sum high sm) in
          record {
            from = subst (λ names. IsPartAttained db q lax Of sought names range.least) (sym r.low_is) (subst (IsPartAttained db q lax Of sought (names_in (atom_at q lax).table low)) (sym from) (attained low sl));
            to = subst (λ names. IsPartAttained db q lax Of sought names range.greatest) (sym r.high_is) (subst (IsPartAttained db q lax Of sought (names_in (atom_at q lax).table high)) (sym to) (attained high sm));
            between = λ kept end repair v.
                let s = sum-of_value kept end repair v in
                let below : sum_of w low ≤ℤ sum_at s.0 = subst (λ n. sum_of w low ≤ℤ n) (numbers-sum s.0 s.1) (lowest w (spans_at db (atom_at q lax).table) low s.0 l.each s.1) in
                let above : sum_at s.0 ≤ℤ sum_of w high = subst (λ n. n ≤ℤ sum_of w high) (numbers-sum s.0 s.1) (highest w (spans_at db (atom_at q lax).table) high s.0 m.each s.1) in (
                  subst (λ a. IsUpTo a end) (sym r.least) (subst (IsUpTo (Number (sum_of w low))) (sym s.2) below),
                  subst (IsUpTo end) (sym r.greatest) (subst (λ a. IsUpTo a (Number (sum_of w high))) (sym s.2) above),
                );
          }
