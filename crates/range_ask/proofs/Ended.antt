-- What a walk kept makes a range.
use Rattle.std.proofs.Common.{◌≡◌, ℕ, ◌<◌, List, [], length, set, Option, Some, None, is_some, Contains, true, false, refl, sym, ◌∙◌, ap, subst, inl, inr}
use Rattle.std.specs.Prelude.{ℤ, pos, ◌≤ℤ◌}
use Rattle.std.specs.Option.{option_copied}
use Rattle.std.specs.Borrow.{Bor}
use Rattle.std.proofs.lemmas.List.{map-set, length-map}
use Rattle.cqa_value.specs.declared.value.Value.{Value}
use Rattle.cqa_value.proofs.Words.{Contains-filter}
use Rattle.aggregate_range.specs.declared.aggregate.Goal.{Goal}
use Rattle.aggregate_range.specs.declared.aggregate.Goal.TheVariants.{Count, Sum, Min, Max}
use Rattle.aggregate_range.specs.declared.aggregate.End.{End}
use Rattle.aggregate_range.specs.declared.aggregate.End.TheVariants.{Number}
use Rattle.cqa_model.specs.declared.query.RowId.{RowId}
use Rattle.cqa_model.specs.Database.{Table}
use Rattle.cqa_model.specs.Repairs.{IsTableRepair}
use Rattle.cqa_model.proofs.Classic.{mem-nil}
use Rattle.cqa_model.proofs.Repairs.{sublist-stored}
use Rattle.table_blocks.specs.declared.test.ColumnTest.{ColumnTest}
use Rattle.table_blocks.specs.Tables.{rows_at, key_at, rows_in, names_in}
use Rattle.range_ask.specs.declared.range.Range.{Range}
use Rattle.range_ask.specs.declared.way.Way.{Way}
use Rattle.range_ask.specs.declared.way.Way.TheVariants.{Up, Down}
use Rattle.range_ask.specs.declared.sums.Sides.{Sides}
use Rattle.range_ask.specs.declared.top.Top.{Top}
use Rattle.range_ask.specs.declared.extremes.Extremes.{Extremes}
use Rattle.range_ask.specs.declared.choice.Choice.{Choice}
use Rattle.range_ask.specs.Choosing.{IsRangeChoice, IsChoiceBetween, IsLoose}
use Rattle.range_ask.specs.Ranges.{cell, meets, part, number_of, total, AtMost, HasValue, IsUpTo, IsAttained, IsRange}
use Rattle.range_ask.specs.Picks.{ArePicked, IsInBlocks, worth, IsCheapest, IsDearest, Before, IsExtreme, AvoidsFar, MeetsFar}
use Rattle.range_ask.specs.Finding.{added, row_in_block}
use Rattle.range_ask.specs.Walking.{wide_of, AreChosenSoFar, AreSides, IsTotal}
use Rattle.range_ask.specs.Reaching.{as_end, with_top, top_row, IsTop, AreExtremes}
use Rattle.range_ask.proofs.Lists.{set-cases, set-there}
use Rattle.range_ask.proofs.Ordered.{before-self}
use Rattle.range_ask.proofs.Picked.{picks_are_repairs}
use Rattle.range_ask.proofs.Totals.{count-is, sum-is, low, high}
use Rattle.range_ask.proofs.Claims.{to-greatest, to-least, greatest-between, least-between, least-below}
use Rattle.range_ask.proofs.Walked.{chosen-length}
use Rattle.range_ask.proofs.Topped.{Kept}
use Rattle.range_ask.proofs.Closed.{kept-of}

pub some-of : (o : Option (Bor (List Value))) → is_some o ≡ true → (x : List Value) × (option_copied o ≡ Some x)
some-of (Some x) e = (x.now, refl)
some-of None e = absurd (cc)

pub none-of : (o : Option (Bor (List Value))) → is_some o ≡ false → option_copied o ≡ None
none-of (Some x) e = absurd (cc)
none-of None e = refl

module _ (db : List Table) (table : ℕ) (tests : List ColumnTest) (blocks : List (List (List Value))) (parted : IsInBlocks db table blocks) where
  abbrev rows : List (List Value)
  rows = rows_at db table

  -- rows that are kept, one of each block, are a repair
  pub attained : (goal : Goal) (places : List ℕ) → Kept rows blocks places → (names : List RowId) (end : End) → names ≡ names_in table places → HasValue goal (part tests (rows_in rows places)) end →
      IsAttained db table goal tests names end
  attained goal places k names end e v = record {
    places = places;
    named = e;
    rises = k.rises;
    repair = (picks_are_repairs (key_at db table) rows blocks (rows_in rows places) parted.blocks_are parted.in_order).1 k.chosen;
    value = v;
  }

  pub picks : (kept : List (List Value)) → IsTableRepair (key_at db table) rows kept → ArePicked blocks kept
  picks kept r = (picks_are_repairs (key_at db table) rows blocks kept parted.blocks_are parted.in_order).0 r

  -- places of kept rows make a choice
  choice-of : (goal : Goal) (lows highs : List ℕ) → Kept rows blocks lows → Kept rows blocks highs → (choice : Choice) → choice.low.items ≡ lows → choice.high.items ≡ highs → choice.wide.items ≡ wide_of blocks →
      IsRange db table goal tests (record { least = choice.least; low = names_in table choice.low.items; greatest = choice.greatest; high = names_in table choice.high.items }) → IsRangeChoice db table goal tests choice
  choice-of goal lows highs kl kh choice l h w range = record {
    parts = blocks;
    parted = parted;
    range = range;
    low_each = ap length l ∙ chosen-length (λ (b : List (List Value)) x. Contains b x) rows blocks lows kl;
    high_each = ap length h ∙ chosen-length (λ (b : List (List Value)) x. Contains b x) rows blocks highs kh;
    wide = w;
  }

  -- ---- counts and sums

  pub numbers : (m n k : ℤ) (end : End) → end ≡ Number k → m ≤ℤ k → k ≤ℤ n → IsUpTo (Number m) end × IsUpTo end (Number n)
  numbers m n k end e h g = subst (λ z. IsUpTo (Number m) z × IsUpTo z (Number n)) (sym e) (h, g)

  module _ (goal : Goal) (f : List Value → ℤ) (value : List (List Value) → ℤ) (is : (kept : List (List Value)) (end : End) → HasValue goal (part tests kept) end → end ≡ Number (value kept))
      (has : (kept : List (List Value)) → HasValue goal (part tests kept) (Number (value kept))) (adds : (kept : List (List Value)) → value kept ≡ total (worth (meets tests) f) kept) where
    sides-range : (sides : Sides) → AreSides (worth (meets tests) f) rows blocks sides → (range : Range) → range.least ≡ Number sides.low.total → range.low ≡ names_in table sides.low.places.items →
        range.greatest ≡ Number sides.high.total → range.high ≡ names_in table sides.high.places.items → IsRange db table goal tests range
    sides-range sides (l, h, w) range a b c d = record {
      from = attained goal sides.low.places.items (kept-of (IsCheapest (worth (meets tests) f)) (λ b x c. c.there) rows blocks sides.low.places.items l.chosen) range.low range.least b
          (subst (HasValue goal (part tests (rows_in rows sides.low.places.items))) (sym (a ∙ ap Number (l.total_is ∙ sym (adds (rows_in rows sides.low.places.items))))) (has (rows_in rows sides.low.places.items)));
      to = attained goal sides.high.places.items (kept-of (IsDearest (worth (meets tests) f)) (λ b x c. c.there) rows blocks sides.high.places.items h.chosen) range.high range.greatest d
          (subst (HasValue goal (part tests (rows_in rows sides.high.places.items))) (sym (c ∙ ap Number (h.total_is ∙ sym (adds (rows_in rows sides.high.places.items))))) (has (rows_in rows sides.high.places.items)));
      between = λ kept end r v.
          subst (λ e. IsUpTo e end × IsUpTo end range.greatest) (sym (a ∙ ap Number l.total_is))
          (subst (λ e. IsUpTo (Number (total (worth (meets tests) f) (rows_in rows sides.low.places.items))) end × IsUpTo end e) (sym (c ∙ ap Number h.total_is))
          (numbers (total (worth (meets tests) f) (rows_in rows sides.low.places.items)) (total (worth (meets tests) f) (rows_in rows sides.high.places.items)) (total (worth (meets tests) f) kept) end
          (is kept end v ∙ ap Number (adds kept))
          (low (worth (meets tests) f) blocks (rows_in rows sides.low.places.items) kept l.chosen.chosen (picks kept r))
          (high (worth (meets tests) f) blocks (rows_in rows sides.high.places.items) kept h.chosen.chosen (picks kept r))));
    }

  total-range : (goal : Goal) → IsTotal goal → (sides : Sides) → AreSides (worth (meets tests) (added goal)) rows blocks sides → (range : Range) → range.least ≡ Number sides.low.total → range.low ≡ names_in table sides.low.places.items →
      range.greatest ≡ Number sides.high.total → range.high ≡ names_in table sides.high.places.items → IsRange db table goal tests range
  total-range Count t sides h range a b c d = sides-range Count (λ row. pos 1) (λ kept. pos (length (part tests kept))) (λ kept end v. v) (λ kept. refl) (λ kept. count-is tests kept) sides h range a b c d
  total-range (Sum col) t sides h range a b c d =
      sides-range (Sum col) (λ row. number_of (cell row col)) (λ kept. total (λ row. number_of (cell row col)) (part tests kept)) (λ kept end v. v) (λ kept. refl) (λ kept. sum-is tests (λ row. number_of (cell row col)) kept) sides h range a b c d
  total-range (Min col) t sides h range a b c d = elim t [ ]
  total-range (Max col) t sides h range a b c d = elim t [ ]

  pub total-choice : (goal : Goal) → IsTotal goal → (sides : Sides) → AreSides (worth (meets tests) (added goal)) rows blocks sides → (choice : Choice) → choice.least ≡ Number sides.low.total → choice.low.items ≡ sides.low.places.items →
      choice.greatest ≡ Number sides.high.total → choice.high.items ≡ sides.high.places.items → choice.wide.items ≡ sides.wide.items → IsRangeChoice db table goal tests choice
  total-choice goal t sides h choice a b c d w =
      let f = worth (meets tests) (added goal) in
      choice-of goal sides.low.places.items sides.high.places.items
      (kept-of (IsCheapest f) (λ b x k. k.there) rows blocks sides.low.places.items h.0.chosen) (kept-of (IsDearest f) (λ b x k. k.there) rows blocks sides.high.places.items h.1.chosen)
      choice b d (w ∙ h.2) (total-range goal t sides h _ a (ap (names_in table) b) c (ap (names_in table) d))

  -- ---- least and greatest values

  module _ (col : ℕ) where
    avoids-kept : (way : Way) (places : List ℕ) → AreChosenSoFar (AvoidsFar way (meets tests) col) rows blocks places → Kept rows blocks places
    avoids-kept way places h = kept-of (AvoidsFar way (meets tests) col) (λ b x c. c.there) rows blocks places h

    meets-kept : (way : Way) (places : List ℕ) → AreChosenSoFar (MeetsFar way (meets tests) col) rows blocks places → Kept rows blocks places
    meets-kept way places h = kept-of (MeetsFar way (meets tests) col) (λ b x c. c.there) rows blocks places h

    -- ends that are values of kept rows make a range
    ranges : (goal : Goal) (lows highs : List ℕ) (a b : Option (List Value)) → Kept rows blocks lows → Kept rows blocks highs →
        HasValue goal (part tests (rows_in rows lows)) (as_end col a) → HasValue goal (part tests (rows_in rows highs)) (as_end col b) →
        ((kept : List (List Value)) (end : End) → IsTableRepair (key_at db table) rows kept → HasValue goal (part tests kept) end → IsUpTo (as_end col a) end × IsUpTo end (as_end col b)) →
        (range : Range) → range.least ≡ as_end col a → range.low ≡ names_in table lows → range.greatest ≡ as_end col b → range.high ≡ names_in table highs → IsRange db table goal tests range
    ranges goal lows highs a b kl kh va vb between range la na gb nb = record {
      from = attained goal lows kl range.low range.least na (subst (HasValue goal (part tests (rows_in rows lows))) (sym la) va);
      to = attained goal highs kh range.high range.greatest nb (subst (HasValue goal (part tests (rows_in rows highs))) (sym gb) vb);
      between = λ kept end r v. subst (λ e. IsUpTo e end × IsUpTo end range.greatest) (sym la) (subst (λ e. IsUpTo (as_end col a) end × IsUpTo end e) (sym gb) (between kept end r v));
    }

    greatest-range : (ends : Extremes) → AreExtremes Up (meets tests) col rows blocks ends → (range : Range) → range.least ≡ as_end col (option_copied ends.avoids.extreme) → range.low ≡ names_in table ends.avoids.places.items →
        range.greatest ≡ as_end col (option_copied ends.meets.extreme) → range.high ≡ names_in table ends.meets.places.items → IsRange db table (Max col) tests range
    greatest-range ends h range la na gb nb =
        let lows = ends.avoids.places.items in
        let highs = ends.meets.places.items in
        ranges (Max col) lows highs (option_copied ends.avoids.extreme) (option_copied ends.meets.extreme) (avoids-kept Up lows h.avoids.chosen) (meets-kept Up highs h.meets.chosen)
        (to-greatest col (part tests (rows_in rows lows)) (option_copied ends.avoids.extreme) h.avoids.extreme) (to-greatest col (part tests (rows_in rows highs)) (option_copied ends.meets.extreme) h.meets.extreme)
        (λ kept end r v. greatest-between tests col blocks (rows_in rows lows) (rows_in rows highs) h.avoids.chosen.chosen h.meets.chosen.chosen (option_copied ends.avoids.extreme) (option_copied ends.meets.extreme)
        h.avoids.extreme h.meets.extreme kept (picks kept r) end v)
        range la na gb nb

    -- a row that avoids the tests meets them
    least-range : (ends : Extremes) → AreExtremes Down (meets tests) col rows blocks ends → (x : List Value) → option_copied ends.avoids.extreme ≡ Some x → (range : Range) →
        range.least ≡ as_end col (option_copied ends.meets.extreme) → range.low ≡ names_in table ends.meets.places.items →
        range.greatest ≡ as_end col (option_copied ends.avoids.extreme) → range.high ≡ names_in table ends.avoids.places.items → IsRange db table (Min col) tests range
    least-range ends h x is range la na gb nb =
        let lows = ends.meets.places.items in
        let highs = ends.avoids.places.items in
        let ex : IsExtreme Down col (part tests (rows_in rows highs)) (Some x) = subst (IsExtreme Down col (part tests (rows_in rows highs))) is h.avoids.extreme in
        ranges (Min col) lows highs (option_copied ends.meets.extreme) (Some x) (meets-kept Down lows h.meets.chosen) (avoids-kept Down highs h.avoids.chosen)
        (to-least col (part tests (rows_in rows lows)) (option_copied ends.meets.extreme) h.meets.extreme) (to-least col (part tests (rows_in rows highs)) (Some x) ex)
        (λ kept end r v. least-between tests col blocks (rows_in rows highs) (rows_in rows lows) h.avoids.chosen.chosen h.meets.chosen.chosen x (option_copied ends.meets.extreme) ex h.meets.extreme kept (picks kept r) end v)
        range la na (gb ∙ ap (as_end col) is) nb

    -- no row is kept that meets the tests
    none-kept : (xs : List (List Value)) → part tests xs ≡ [] → (y : List Value) → Contains xs y → meets tests y ≡ true → ⊥
    none-kept xs e y m t = mem-nil y (subst (λ zs. Contains zs y) e ((Contains-filter (meets tests) xs y).1 (m, t)))

    -- one row is put among such
    sole : (xs : List (List Value)) (n : ℕ) (r : List Value) → part tests xs ≡ [] → n < length xs → meets tests r ≡ true → IsExtreme Down col (part tests (set xs n r)) (Some r)
    sole xs n r e l t = (
      (Contains-filter (meets tests) (set xs n r) r).1 (set-there xs n r l, t),
      λ y m. let p = (Contains-filter (meets tests) (set xs n r) y).0 m in elim (set-cases xs n r y p.0) [
        | inl k ↦ absurd (none-kept xs e y k p.1)
        | inr same ↦ subst (λ z. Before Down (cell z col) (cell r col)) (sym same) (before-self Down (cell r col))
      ],
    )

    top-extreme : (places : List ℕ) (top : Option Top) → part tests (rows_in rows places) ≡ [] → IsTop Up (meets tests) col rows blocks places top → IsExtreme Down col (part tests (rows_in rows (with_top places top))) (top_row top)
    top-extreme places None e h = e
    top-extreme places (Some top) e h =
        subst (λ xs. IsExtreme Down col (part tests xs) (Some top.row.now)) (sym (map-set (λ q. row_in_block rows q) places top.number top.place))
        (subst (λ r. IsExtreme Down col (part tests (set (rows_in rows places) top.number (row_in_block rows top.place))) (Some r)) h.is
        (sole (rows_in rows places) top.number (row_in_block rows top.place) e (subst (λ k. top.number < k) (sym (length-map places (λ q. row_in_block rows q))) h.there) h.meets))

    top-kept : (places : List ℕ) (top : Option Top) → Kept rows blocks places → IsTop Up (meets tests) col rows blocks places top → Kept rows blocks (with_top places top)
    top-kept places None k h = k
    top-kept places (Some top) k h = h.kept

    top-best : (places : List ℕ) (top : Option Top) → IsTop Up (meets tests) col rows blocks places top → (x : List Value) → top_row top ≡ Some x → (y : List Value) → Contains rows y → meets tests y ≡ true → AtMost (cell y col) (cell x col)
    top-best places None h x e y m t = absurd (cc)
    top-best places (Some top) h x e y m t = subst (λ z. AtMost (cell y col) (cell z col)) (some-same e) (h.best y (subst (λ rs. Contains rs y) (sym parted.blocks_are.joined) m) t)
      where
        some-same : Some top.row.now ≡ Some x → top.row.now ≡ x
        some-same s = (cc)

    top-none : (places : List ℕ) (top : Option Top) → IsTop Up (meets tests) col rows blocks places top → top_row top ≡ None → (y : List Value) → Contains rows y → meets tests y ≡ false
    top-none places None h e y m = h y (subst (λ rs. Contains rs y) (sym parted.blocks_are.joined) m)
    top-none places (Some top) h e y m = absurd (cc)

    -- no row that avoids the tests meets them
    loose-range : (ends : Extremes) → AreExtremes Down (meets tests) col rows blocks ends → option_copied ends.avoids.extreme ≡ None → (range : Range) →
        range.least ≡ as_end col (option_copied ends.avoids.extreme) → range.low ≡ names_in table ends.avoids.places.items →
        range.greatest ≡ as_end col (top_row ends.top) → range.high ≡ names_in table (with_top ends.avoids.places.items ends.top) → IsRange db table (Min col) tests range
    loose-range ends h is range la na gb nb =
        let places = ends.avoids.places.items in
        let none : part tests (rows_in rows places) ≡ [] = subst (IsExtreme Down col (part tests (rows_in rows places))) is h.avoids.extreme in
        let kept = avoids-kept Down places h.avoids.chosen in
        ranges (Min col) places (with_top places ends.top) None (top_row ends.top) kept (top-kept places ends.top kept h.top)
        none (to-least col (part tests (rows_in rows (with_top places ends.top))) (top_row ends.top) (top-extreme places ends.top none h.top))
        (λ ys end r v. (tt, least-below tests col blocks [] [] rows (top_row ends.top) (top-best places ends.top h.top) (top-none places ends.top h.top) ys (λ y m. sublist-stored ys rows r.stored y m) end v))
        range (la ∙ ap (as_end col) is) na gb nb

    -- ---- the choices

    pub greatest-choice : (ends : Extremes) → AreExtremes Up (meets tests) col rows blocks ends → (choice : Choice) → IsChoiceBetween col ends.avoids ends.meets ends.wide.items choice → IsRangeChoice db table (Max col) tests choice
    greatest-choice ends h choice b =
        choice-of (Max col) ends.avoids.places.items ends.meets.places.items (avoids-kept Up ends.avoids.places.items h.avoids.chosen) (meets-kept Up ends.meets.places.items h.meets.chosen)
        choice b.low_is b.high_is (b.wide_is ∙ h.wide) (greatest-range ends h _ b.least_is (ap (names_in table) b.low_is) b.greatest_is (ap (names_in table) b.high_is))

    pub least-choice : (ends : Extremes) → AreExtremes Down (meets tests) col rows blocks ends → (x : List Value) → option_copied ends.avoids.extreme ≡ Some x → (choice : Choice) →
        IsChoiceBetween col ends.meets ends.avoids ends.wide.items choice → IsRangeChoice db table (Min col) tests choice
    least-choice ends h x is choice b =
        choice-of (Min col) ends.meets.places.items ends.avoids.places.items (meets-kept Down ends.meets.places.items h.meets.chosen) (avoids-kept Down ends.avoids.places.items h.avoids.chosen)
        choice b.low_is b.high_is (b.wide_is ∙ h.wide) (least-range ends h x is _ b.least_is (ap (names_in table) b.low_is) b.greatest_is (ap (names_in table) b.high_is))

    pub loose-choice : (ends : Extremes) → AreExtremes Down (meets tests) col rows blocks ends → option_copied ends.avoids.extreme ≡ None → (choice : Choice) → IsLoose col ends choice → IsRangeChoice db table (Min col) tests choice
    loose-choice ends h is choice l =
        let places = ends.avoids.places.items in
        let kept = avoids-kept Down places h.avoids.chosen in
        let b = l.between in
        choice-of (Min col) places (with_top places ends.top) kept (top-kept places ends.top kept h.top) choice b.low_is (b.high_is ∙ l.places_are) (b.wide_is ∙ h.wide)
        (loose-range ends h is _ b.least_is (ap (names_in table) b.low_is) (b.greatest_is ∙ ap (as_end col) l.extreme_is) (ap (names_in table) (b.high_is ∙ l.places_are)))
