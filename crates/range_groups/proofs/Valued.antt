-- The values that a group surely has and those that lie furthest are the ends that places of each block have.
use Rattle.std.proofs.Common.{◌≡◌, ℕ, ◌<◌, Bool, List, length, map, Option, Some, None, Contains, refl, sym, ◌∙◌, ap, subst}
use Rattle.std.specs.Prelude.{nat_lt}
use Rattle.cqa_value.specs.declared.value.Value.{Value}
use Rattle.aggregate_range.specs.declared.aggregate.End.TheVariants.{Empty}
use Rattle.cqa_model.specs.Database.{Table}
use Rattle.table_blocks.specs.Tables.{rows_at}
use Rattle.cqa_value.proofs.Words.{all_zip_right}
use Rattle.join_access.proofs.Naming.{zip-left}
use Rattle.range_ask.specs.Picks.{IsInBlocks}
use Rattle.range_join.specs.declared.carriers.Extreme.{Extreme}
use Rattle.range_join.specs.declared.carriers.Extreme.TheVariants.{Least, Greatest}
use Rattle.range_join.specs.declared.spans.Span.{Span}
use Rattle.range_join.specs.Firsts.{spans_at, blocks_at, StandsIn, IsFirst, AreFirsts}
use Rattle.range_join.specs.Peaks.{EndPlaces, lags, rank, value_end, peak_from, NoFurther, IsPeak, HasSome, AreBest, AreNearest, AreFurthest, IsTopPlace, IsLeastBy, ArePeaks}
use Rattle.range_join.proofs.Choosing.{peak-is, greatest-peaks, least-peaks}
use Rattle.range_join.proofs.Peaking.{Reaches, lags-false, lags-not, nearest-order, furthest-order, rank-order, no_further-self, peak-same}
use Rattle.range_join.proofs.Spots.{firsts-below, span-at}
use Rattle.range_groups.specs.declared.touched.Carrier.{Carrier}
use Rattle.range_groups.specs.Touched.{carried_at, AreCarriers, AreEndValues, IsCarried, IsSure}
use Rattle.range_groups.proofs.Existing.{first_in, firsts-are}
use Rattle.range_groups.proofs.Touching.{reaches-both, one-peak, some-same, none-some, carried-some, some-carried}

-- a value that some place has
abbrev pub IsOfSome : (ℕ → Option Value) → Value → Type 0
IsOfSome best v = (p : ℕ) × (best p ≡ Some v)

module _ (db : List Table) (table : ℕ) (parted : IsInBlocks db table (blocks_at db table)) (best : ℕ → Option Value) (n : ℕ) (long : n ≡ length (rows_at db table)) (below : (p : ℕ) (v : Value) → best p ≡ Some v → p < n) where
  abbrev has : ℕ → Value → Type 0
  has p v = best p ≡ Some v

  -- the value of a place is its only one
  are-best : (way : Extreme) → AreBest way has n best
  are-best way p l = go (best p) refl
    where
      go : (o : Option Value) → best p ≡ o → IsPeak way (has p) o
      go None e = λ v f. none-some v (sym e ∙ f)
      go (Some x) e = (e, λ u f. subst (λ v. NoFurther way v x) (some-same x u (sym e ∙ f)) (no_further-self way x))

  module _ (way : Extreme) where
    near : List ℕ
    near = map (first_in (λ p q. lags way (best p) (best q)) (nearest-order way best)) (spans_at db table)

    near-are : AreNearest way best db table near
    unfolding near
    near-are = firsts-are (λ p q. lags way (best p) (best q)) (nearest-order way best) db table parted

    far : List ℕ
    far = map (first_in (λ p q. lags way (best q) (best p)) (furthest-order way best)) (spans_at db table)

    far-are : AreFurthest way best db table far
    unfolding far
    far-are = firsts-are (λ p q. lags way (best q) (best p)) (furthest-order way best) db table parted

    within : (before : ℕ → ℕ → Bool) (places : List ℕ) → AreFirsts before db table places → (p : ℕ) → Contains places p → p < n
    within before places h p m = subst (λ k. p < k) (sym long) (firsts-below before db table places h p m)

    -- what blocks surely give are the values of places that lie least far
    sure-places : (v : Value) → IsSure way best (spans_at db table) v → HasSome has near v
    sure-places v (span, m, (p, first, e)) =
        let q = zip-left (IsFirst (λ p q. lags way (best p) (best q))) (spans_at db table) near near-are.firsts span m in
        (q.0, q.1, reaches-both way (best q.0) (best p) (lags-false way (best p) (best q.0) (q.2.first p first.there)) (lags-false way (best q.0) (best p) (first.first q.0 q.2.there)) ∙ e)

    places-sure : (v : Value) → HasSome has near v → IsSure way best (spans_at db table) v
    places-sure v (p, m, e) = let s = all_zip_right (IsFirst (λ p q. lags way (best p) (best q))) (spans_at db table) near p near-are.firsts m in (s.0, s.1, (p, s.2, e))

    near-value : (a : Option Value) → IsPeak way (IsSure way best (spans_at db table)) a → a ≡ peak_from way None best near
    near-value a h =
        one-peak way (HasSome has near) a (peak_from way None best near) (peak-same way (IsSure way best (spans_at db table)) (HasSome has near) sure-places places-sure a h)
        (peak-is way has n best (are-best way) near (within (λ p q. lags way (best p) (best q)) near near-are))

    -- a value that lies furthest of all is that of a place that lies furthest of its block
    far-peak : (a : Option Value) → IsPeak way (IsOfSome best) a → IsPeak way (HasSome has far) a
    far-peak None h = λ v s. h v (s.0, s.2)
    far-peak (Some x) ((p, e), most) = (taken, λ u s. most u (s.0, s.2))
      where
        span : (t : Span) × Contains (spans_at db table) t × StandsIn t p
        span = span-at db table parted p (subst (λ k. p < k) long (below p x e))

        place : (q : ℕ) × Contains far q × IsFirst (λ p q. lags way (best q) (best p)) span.0 q
        place = zip-left (IsFirst (λ p q. lags way (best q) (best p))) (spans_at db table) far far-are.firsts span.0 span.1

        reach : (o : Option Value) → best place.0 ≡ o → Reaches way (Some x) o → Reaches way o (Some x)
        reach None f r = absurd r
        reach (Some u) f r = most u (place.0, f)

        taken : HasSome has far x
        taken =
            let r = subst (λ o. Reaches way o (best place.0)) e (lags-false way (best place.0) (best p) (place.2.first p span.2)) in
            (place.0, place.1, reaches-both way (best place.0) (Some x) (reach (best place.0) refl r) r)

    far-value : (a : Option Value) → IsPeak way (IsOfSome best) a → a ≡ peak_from way None best far
    far-value a h = one-peak way (HasSome has far) a (peak_from way None best far) (far-peak a h) (peak-is way has n best (are-best way) far (within (λ p q. lags way (best q) (best p)) far far-are))

  -- ---- both ends

  pub greatest-ends : (a b : Option Value) → IsPeak Greatest (IsSure Greatest best (spans_at db table)) a → IsPeak Greatest (IsOfSome best) b → AreEndValues Greatest best n db table a b
  greatest-ends a b h k = record {
    low = near Greatest;
    high = far Greatest;
    choice = record {
      low = near-are Greatest;
      high = far-are Greatest;
      least = ap value_end (near-value Greatest a h);
      greatest = ap value_end (far-value Greatest b k);
    };
  }

  -- where some block surely gives a value
  pub sure-ends : (x : Value) (b : Option Value) → IsPeak Least (IsSure Least best (spans_at db table)) (Some x) → IsPeak Least (IsOfSome best) b → AreEndValues Least best n db table b (Some x)
  sure-ends x b h k = record {
    low = far Least;
    high = near Least;
    choice = record {
      near = near Least;
      near_are = near-are Least;
      by_near = subst (λ o. IsLeastBy best n db table (near Least) o ends) (near-value Least (Some x) h) (record { low = far-are Least; high_is = refl; least = ap value_end (far-value Least b k); greatest = refl });
    };
  }
    where
      ends : EndPlaces
      ends = record { least = value_end b; low = far Least; greatest = value_end (Some x); high = near Least }

  -- where none does, a value that lies furthest of all is the only one of places that have it alone
  top-place : (b : Option Value) → IsPeak Greatest (IsOfSome best) b → (p : ℕ) × (best p ≡ b) × IsTopPlace Greatest best n p
  top-place None k = (0, bare 0, λ p l. ap (λ o. lags Greatest (best 0) o) (bare p))
    where
      none : (p : ℕ) (o : Option Value) → best p ≡ o → o ≡ None
      none p None e = refl
      none p (Some v) e = absurd (k v (p, e))

      bare : (p : ℕ) → best p ≡ None
      bare p = none p (best p) refl
  top-place (Some x) ((p, e), most) = (p, e, λ q l. lags-not Greatest (best p) (best q) (subst (Reaches Greatest (best q)) (sym e) (reach q (best q) refl)))
    where
      reach : (q : ℕ) (o : Option Value) → best q ≡ o → Reaches Greatest o (Some x)
      reach q None f = tt
      reach q (Some u) f = most u (q, f)

  pub loose-ends : (b : Option Value) → IsPeak Least (IsSure Least best (spans_at db table)) None → IsPeak Greatest (IsOfSome best) b → AreEndValues Least best n db table None b
  loose-ends b h k = record {
    low = near Least;
    high = alone;
    choice = record {
      near = near Least;
      near_are = near-are Least;
      by_near = subst (λ o. IsLeastBy best n db table (near Least) o ends) (near-value Least None h)
          (record { top = top.0; is_top = top.2; high = firsts-are (λ p q. nat_lt (rank top.0 best p) (rank top.0 best q)) (rank-order top.0 best) db table parted; low_is = refl; least = refl; greatest = ap value_end (sym top.1) });
    };
  }
    where
      top : (p : ℕ) × (best p ≡ b) × IsTopPlace Greatest best n p
      top = top-place b k

      alone : List ℕ
      alone = map (first_in (λ p q. nat_lt (rank top.0 best p) (rank top.0 best q)) (rank-order top.0 best)) (spans_at db table)

      ends : EndPlaces
      ends = record { least = Empty; low = near Least; greatest = value_end b; high = alone }

  -- they are the ends of any values of which these lie furthest
  pub end-peaks : (of : ℕ → Value → Type 0) (way : Extreme) (least greatest : Option Value) → AreBest way of n best → (e : AreEndValues way best n db table least greatest) →
      ArePeaks db table way of (record { least = value_end least; low = e.low; greatest = value_end greatest; high = e.high })
  end-peaks of Least least greatest are e = least-peaks db table of n long best (record { least = value_end least; low = e.low; greatest = value_end greatest; high = e.high }) are below e.choice
  end-peaks of Greatest least greatest are e = greatest-peaks db table of n long best (record { least = value_end least; low = e.low; greatest = value_end greatest; high = e.high }) are e.choice

-- ---- the values of carriers

module _ (col n : ℕ) (carriers : List Carrier) (are : AreCarriers n carriers) where
  pub carried-below : (p : ℕ) (v : Value) → carried_at col carriers p ≡ Some v → p < n
  carried-below p v e = let c = some-carried col carriers p v e in subst (λ q. q < n) c.2 (are.below c.0 c.1)

  pub carried-peak : (way : Extreme) (a : Option Value) → IsPeak way (IsCarried col carriers) a → IsPeak way (IsOfSome (carried_at col carriers)) a
  carried-peak way a h =
      peak-same way (IsCarried col carriers) (IsOfSome (carried_at col carriers))
      (λ v c. (c.0.place, carried-some col 0 carriers are.ascend c.0 c.1 ∙ ap Some c.2))
      (λ v s. let c = some-carried col carriers s.0 v s.1 in (c.0, c.1, c.3)) a h
