-- What is chosen for both ends has the ends, and the others lie between them.
use Rattle.std.proofs.Common.{◌≡◌, ◌⊎◌, inl, inr, ℕ, ◌<◌, List, [], ◌∷◌, length, Option, Some, None, Contains, refl, sym, subst}
use Rattle.cqa_value.specs.declared.value.Value.{Value}
use Rattle.aggregate_range.specs.declared.aggregate.End.{End}
use Rattle.aggregate_range.specs.declared.aggregate.End.TheVariants.{Held}
use Rattle.cqa_model.specs.Database.{Table}
use Rattle.cqa_model.proofs.Classic.{mem-head, mem-tail, mem-nil, mem-cases}
use Rattle.table_blocks.specs.Tables.{rows_at}
use Rattle.range_ask.specs.Ranges.{IsUpTo}
use Rattle.range_join.specs.declared.carriers.Extreme.{Extreme}
use Rattle.range_join.specs.declared.carriers.Extreme.TheVariants.{Least, Greatest}
use Rattle.range_join.specs.Firsts.{AreSpots, spans_at}
use Rattle.range_join.specs.Peaks.{EndPlaces, further, peak_from, value_end, IsPeak, HasSome, HasEnd, AreBest, ArePeaks, AreNearest, IsGreatestChoice, IsSureChoice, IsLooseChoice, IsLeastBy, IsLeastChoice}
use Rattle.range_join.proofs.Spots.{firsts-spots, firsts-below, spots-below, span-at}
use Rattle.range_join.proofs.Peaking.{peak-either, peak-same, nearest-reach, furthest-reach, of-end, to-end, greatest-up_to, least-up_to, below-top, alone-peak}

-- ---- the peak of places

module _ (way : Extreme) (has : ℕ → Value → Type 0) (n : ℕ) (best : ℕ → Option Value) (are : AreBest way has n best) where
  from-is : (places : List ℕ) → ((p : ℕ) → Contains places p → p < n) → (A : Value → Type 0) (first : Option Value) → IsPeak way A first → IsPeak way (λ v. A v ⊎ HasSome has places v) (peak_from way first best places)
  from-is [] below A first h = peak-same way A (λ v. A v ⊎ HasSome has [] v) (λ v a. inl a) (λ v e. elim e [ inl a ↦ a | inr s ↦ absurd (mem-nil s.0 s.1) ]) first h
  from-is (p ∷ places) below A first h =
      let one = peak-either way A (has p) (λ v. A v ⊎ has p v) (λ v a. inl a) (λ v b. inr b) (λ v e. e) first (best p) h (are p (below p (mem-head p places))) in
      let rest = from-is places (λ q m. below q (mem-tail q p places m)) (λ v. A v ⊎ has p v) (further way first (best p)) one in
      peak-same way (λ v. (A v ⊎ has p v) ⊎ HasSome has places v) (λ v. A v ⊎ HasSome has (p ∷ places) v) (λ v e. elim e [
        | inl o ↦ elim o [ inl a ↦ inl a | inr b ↦ inr (p, mem-head p places, b) ]
        | inr s ↦ inr (s.0, mem-tail s.0 p places s.1, s.2)
      ]) (λ v e. elim e [
        | inl a ↦ inl (inl a)
        | inr s ↦ elim (mem-cases s.0 p places s.1) [ inl same ↦ inl (inr (subst (λ q. has q v) (sym same) s.2)) | inr m ↦ inr (s.0, m, s.2) ]
      ]) (peak_from way (further way first (best p)) best places) rest

  pub peak-is : (places : List ℕ) → ((p : ℕ) → Contains places p → p < n) → IsPeak way (HasSome has places) (peak_from way None best places)
  peak-is places below =
      peak-same way (λ v. ⊥ ⊎ HasSome has places v) (HasSome has places) (λ v e. elim e [ inl a ↦ absurd a | inr s ↦ s ]) (λ v s. inr s) (peak_from way None best places)
      (from-is places below (λ v. ⊥) None (λ v a. a))

  pub end-is : (places : List ℕ) → ((p : ℕ) → Contains places p → p < n) → (end : End) → end ≡ value_end (peak_from way None best places) → HasEnd way has places end
  end-is places below end e = subst (HasEnd way has places) (sym e) (to-end way has places (peak_from way None best places) (peak-is places below))

-- ---- both ends

module _ (db : List Table) (table : ℕ) (has : ℕ → Value → Type 0) (n : ℕ) (long : n ≡ length (rows_at db table)) (best : ℕ → Option Value) (ends : EndPlaces) where
  within : (places : List ℕ) → ((p : ℕ) → Contains places p → p < length (rows_at db table)) → (p : ℕ) → Contains places p → p < n
  within places below p m = subst (λ k. p < k) (sym long) (below p m)

  pub greatest-peaks : AreBest Greatest has n best → IsGreatestChoice best db table ends → ArePeaks db table Greatest has ends
  greatest-peaks are h = record {
    parted = h.low.parted;
    low_there = firsts-spots _ db table ends.low h.low;
    high_there = firsts-spots _ db table ends.high h.high;
    least_is = end-is Greatest has n best are ends.low low-in ends.least h.least;
    greatest_is = end-is Greatest has n best are ends.high high-in ends.greatest h.greatest;
    between = λ places end there value.
        let o = of-end Greatest has places end value in
        let in_places = within places (spots-below db table h.low.parted places there) in
        let near = nearest-reach Greatest has n best are (spans_at db table) ends.low places low-in in_places there (peak_from Greatest None best ends.low) o.0 (peak-is Greatest has n best are ends.low low-in) o.2 h.low.firsts in
        let far = furthest-reach Greatest has n best are (spans_at db table) ends.high places high-in in_places there (peak_from Greatest None best ends.high) o.0 (peak-is Greatest has n best are ends.high high-in) o.2 h.high.firsts in (
          subst (λ e. IsUpTo e end) (sym h.least) (subst (λ e. IsUpTo (value_end (peak_from Greatest None best ends.low)) e) (sym o.1) (greatest-up_to (peak_from Greatest None best ends.low) o.0 near)),
          subst (λ e. IsUpTo end e) (sym h.greatest) (subst (λ e. IsUpTo e (value_end (peak_from Greatest None best ends.high))) (sym o.1) (greatest-up_to o.0 (peak_from Greatest None best ends.high) far)),
        );
  }
    where
      low-in : (p : ℕ) → Contains ends.low p → p < n
      low-in = within ends.low (firsts-below _ db table ends.low h.low)

      high-in : (p : ℕ) → Contains ends.high p → p < n
      high-in = within ends.high (firsts-below _ db table ends.high h.high)

  module _ (are : AreBest Least has n best) (near : List ℕ) (near_are : AreNearest Least best db table near) where
    near-in : (p : ℕ) → Contains near p → p < n
    near-in = within near (firsts-below _ db table near near_are)

    sure-peaks : (value : Value) → peak_from Least None best near ≡ Some value → IsSureChoice best db table value near ends → ArePeaks db table Least has ends
    sure-peaks value e h = record {
      parted = near_are.parted;
      low_there = firsts-spots _ db table ends.low h.low;
      high_there = subst (AreSpots db table) (sym h.high_is) (firsts-spots _ db table near near_are);
      least_is = end-is Least has n best are ends.low low-in ends.least h.least;
      greatest_is = subst (λ ps. HasEnd Least has ps ends.greatest) (sym h.high_is) (subst (HasEnd Least has near) (sym h.greatest) peak);
      between = λ places end there is.
          let o = of-end Least has places end is in
          let in_places = within places (spots-below db table near_are.parted places there) in
          let low = peak_from Least None best ends.low in
          let close = nearest-reach Least has n best are (spans_at db table) near places near-in in_places there (Some value) o.0 peak o.2 near_are.firsts in
          let far = furthest-reach Least has n best are (spans_at db table) ends.low places low-in in_places there low o.0 (peak-is Least has n best are ends.low low-in) o.2 h.low.firsts in
          let both = least-up_to value o.0 low close far in (
            subst (λ x. IsUpTo x end) (sym h.least) (subst (IsUpTo (value_end low)) (sym o.1) both.0),
            subst (IsUpTo end) (sym h.greatest) (subst (λ x. IsUpTo x (Held value)) (sym o.1) both.1),
          );
    }
      where
        low-in : (p : ℕ) → Contains ends.low p → p < n
        low-in = within ends.low (firsts-below _ db table ends.low h.low)

        peak : IsPeak Least (HasSome has near) (Some value)
        peak = subst (IsPeak Least (HasSome has near)) e (peak-is Least has n best are near near-in)

    loose-peaks : ((p : ℕ) (v : Value) → best p ≡ Some v → p < n) → peak_from Least None best near ≡ None → IsLooseChoice best n db table near ends → ArePeaks db table Least has ends
    loose-peaks stored e h = record {
      parted = near_are.parted;
      low_there = subst (AreSpots db table) (sym h.low_is) (firsts-spots _ db table near near_are);
      high_there = firsts-spots _ db table ends.high h.high;
      least_is = subst (λ ps. HasEnd Least has ps ends.least) (sym h.low_is) (subst (HasEnd Least has near) (sym h.least) none);
      greatest_is = subst (HasEnd Least has ends.high) (sym h.greatest) (to-end Least has ends.high (best h.top) alone);
      between = λ places end there is.
          let o = of-end Least has places end is in
          let in_places = within places (spots-below db table near_are.parted places there) in (
            subst (λ x. IsUpTo x end) (sym h.least) tt,
            subst (IsUpTo end) (sym h.greatest) (subst (λ x. IsUpTo x (value_end (best h.top))) (sym o.1)
                (greatest-up_to o.0 (best h.top) (below-top has n best are h.top h.is_top places in_places o.0 o.2))),
          );
    }
      where
        none : IsPeak Least (HasSome has near) None
        none = subst (IsPeak Least (HasSome has near)) e (peak-is Least has n best are near near-in)

        high-in : (p : ℕ) → Contains ends.high p → p < n
        high-in = within ends.high (firsts-below _ db table ends.high h.high)

        alone : IsPeak Least (HasSome has ends.high) (best h.top)
        alone = alone-peak has n best are h.top h.is_top (spans_at db table) near ends.high near-in high-in (firsts-spots _ db table near near_are) h.high.firsts none
            (λ t f. span-at db table near_are.parted h.top (subst (λ k. h.top < k) long (stored h.top t f)))

  pub least-peaks : AreBest Least has n best → ((p : ℕ) (v : Value) → best p ≡ Some v → p < n) → IsLeastChoice best n db table ends → ArePeaks db table Least has ends
  least-peaks are stored h = go (peak_from Least None best h.near) refl h.by_near
    where
      go : (o : Option Value) → peak_from Least None best h.near ≡ o → IsLeastBy best n db table h.near o ends → ArePeaks db table Least has ends
      go None e k = loose-peaks are h.near h.near_are stored e k
      go (Some value) e k = sure-peaks are h.near h.near_are value e k
