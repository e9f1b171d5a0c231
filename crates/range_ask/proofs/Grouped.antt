-- What is kept of a group after all blocks makes its range.
use Rattle.std.proofs.Common.{◌≡◌, inl, inr, ℕ, List, [], ◌∷◌, length, Contains, Option, Some, None, Bool, refl, sym, ◌∙◌, ap, subst}
use Rattle.std.specs.Prelude.{ℤ, pos, ◌+ℤ◌, ◌≤ℤ◌}
use Rattle.std.specs.List.{AllZip, filter}
use Rattle.std.specs.Option.{option_copied}
use Rattle.cqa_value.specs.declared.value.Value.{Value}
use Rattle.cqa_value.proofs.Words.{Contains-filter}
use Rattle.aggregate_range.specs.declared.aggregate.Goal.{Goal}
use Rattle.aggregate_range.specs.declared.aggregate.Goal.TheVariants.{Count, Sum, Min, Max}
use Rattle.aggregate_range.specs.declared.aggregate.End.{End}
use Rattle.aggregate_range.specs.declared.aggregate.End.TheVariants.{Empty, Number, Held}
use Rattle.cqa_model.specs.declared.query.RowId.{RowId}
use Rattle.cqa_model.specs.Database.{Table}
use Rattle.cqa_model.proofs.Classic.{mem-nil, mem-head}
use Rattle.cqa_model.proofs.Repairs.{sublist-stored}
use Rattle.table_blocks.specs.declared.test.ColumnTest.{ColumnTest}
use Rattle.table_blocks.specs.Tables.{rows_at, key_at, names_in}
use Rattle.range_ask.specs.declared.tally.Tally.{Tally}
use Rattle.range_ask.specs.declared.total.Total.{Total}
use Rattle.range_ask.specs.declared.peak.Peak.{Peak}
use Rattle.range_ask.specs.declared.way.Way.{Way}
use Rattle.range_ask.specs.declared.way.Way.TheVariants.{Up, Down}
use Rattle.range_ask.specs.Ranges.{cell, meets, part, number_of, total, HasValue, IsUpTo, IsRange}
use Rattle.range_ask.specs.Picks.{ArePicked, IsInBlocks, worth, IsCheapest, IsDearest, Before, IsExtreme, AvoidsFar}
use Rattle.range_ask.specs.Finding.{added}
use Rattle.range_ask.specs.Walking.{rows_of_blocks, IsTotal}
use Rattle.range_ask.specs.Reaching.{as_end}
use Rattle.range_ask.specs.Tallying.{total_of, peak_of, low_end, high_end, least_low, least_high, HasEnds, AreSums, IsPeakSettled, AreFar, IsWhole}
use Rattle.range_ask.proofs.Lists.{zip-map}
use Rattle.range_ask.proofs.Ordered.{before-self}
use Rattle.range_ask.proofs.Totals.{count-is, sum-is, low, high}
use Rattle.range_ask.proofs.Claims.{of-greatest, of-least, to-greatest, to-least, near-from}
use Rattle.range_ask.proofs.Ended.{attained, picks, numbers}
use Rattle.range_ask.proofs.Picked.{repair-of_picks}
use Rattle.range_ask.proofs.Placed.{pick-with, places-of}

no_member : (xs : List (List Value)) → ((z : List Value) → Contains xs z → ⊥) → xs ≡ []
no_member [] h = refl
no_member (x ∷ xs) h = absurd (h x (mem-head x xs))

module _ (db : List Table) (table : ℕ) (tests : List ColumnTest) (blocks : List (List (List Value))) (parted : IsInBlocks db table blocks) where
  abbrev rows : List (List Value)
  rows = rows_at db table

  abbrev pub HasRange : Goal → End → End → Type 0
  HasRange goal a b = (low : List RowId) × (high : List RowId) × IsRange db table goal tests (record { least = a; low = low; greatest = b; high = high })

  -- ends that are values of picked rows make a range
  ranged : (goal : Goal) (a b : End) (xs ys : List (List Value)) → ArePicked blocks xs → ArePicked blocks ys → HasValue goal (part tests xs) a → HasValue goal (part tests ys) b →
      ((kept : List (List Value)) (end : End) → ArePicked blocks kept → HasValue goal (part tests kept) end → IsUpTo a end × IsUpTo end b) → HasRange goal a b
  ranged goal a b xs ys px py va vb between =
      let l = places-of db table blocks parted xs px in
      let h = places-of db table blocks parted ys py in (
        names_in table l.0,
        names_in table h.0,
        record {
          from = attained db table tests blocks parted goal l.0 l.1 (names_in table l.0) a refl (subst (λ zs. HasValue goal (part tests zs) a) (sym l.2) va);
          to = attained db table tests blocks parted goal h.0 h.1 (names_in table h.0) b refl (subst (λ zs. HasValue goal (part tests zs) b) (sym h.2) vb);
          between = λ kept end r v. between kept end (picks db table tests blocks parted kept r) v;
        },
      )

  -- ---- counts and sums

  module _ (goal : Goal) (f : List Value → ℤ) (value : List (List Value) → ℤ) (is : (kept : List (List Value)) (end : End) → HasValue goal (part tests kept) end → end ≡ Number (value kept))
      (has : (kept : List (List Value)) → HasValue goal (part tests kept) (Number (value kept))) (adds : (kept : List (List Value)) → value kept ≡ total (worth (meets tests) f) kept) where
    sums-range : (t : Total) → AreSums (worth (meets tests) f) blocks t → HasRange goal (Number (t.low +ℤ t.least)) (Number (t.high +ℤ t.most))
    sums-range t s =
        let w = worth (meets tests) f in
        ranged goal (Number (t.low +ℤ t.least)) (Number (t.high +ℤ t.most)) s.low.picks s.high.picks
        (zip-map (IsCheapest w) (λ (b : List (List Value)) x. Contains b x) (λ b x c. c.there) blocks s.low.picks s.low.picked)
        (zip-map (IsDearest w) (λ (b : List (List Value)) x. Contains b x) (λ b x c. c.there) blocks s.high.picks s.high.picked)
        (subst (HasValue goal (part tests s.low.picks)) (ap Number (adds s.low.picks ∙ sym s.low.is)) (has s.low.picks))
        (subst (HasValue goal (part tests s.high.picks)) (ap Number (adds s.high.picks ∙ sym s.high.is)) (has s.high.picks))
        (λ kept end p v. numbers db table tests blocks parted (t.low +ℤ t.least) (t.high +ℤ t.most) (total w kept) end (is kept end v ∙ ap Number (adds kept))
        (subst (λ n. n ≤ℤ total w kept) (sym s.low.is) (low w blocks s.low.picks kept s.low.picked p))
        (subst (λ n. total w kept ≤ℤ n) (sym s.high.is) (high w blocks s.high.picks kept s.high.picked p)))

  -- ---- extreme values

  module _ (col : ℕ) where
    in_rows : (kept : List (List Value)) → ArePicked blocks kept → (y : List Value) → Contains (part tests kept) y → Contains (filter (meets tests) (rows_of_blocks blocks)) y
    in_rows kept p y m =
        let b = (Contains-filter (meets tests) kept y).0 m in
        (Contains-filter (meets tests) (rows_of_blocks blocks) y).1
        (subst (λ rs. Contains rs y) (sym parted.blocks_are.joined) (sublist-stored kept rows (repair-of_picks (key_at db table) rows blocks kept parted.blocks_are p).stored y b.0), b.1)

    avoiding : (way : Way) (xs : List (List Value)) → AllZip (AvoidsFar way (meets tests) col) blocks xs → ArePicked blocks xs
    avoiding way xs h = zip-map (AvoidsFar way (meets tests) col) (λ (b : List (List Value)) x. Contains b x) (λ b x a. a.there) blocks xs h

    -- a row that lies furthest of all that meet the tests does so of picked rows, too
    furthest : (way : Way) (xs : List (List Value)) → ArePicked blocks xs → (o : Option (List Value)) → IsExtreme way col (filter (meets tests) (rows_of_blocks blocks)) o →
        (ys : List (List Value)) × ArePicked blocks ys × IsExtreme way col (part tests ys) o
    furthest way xs p None none = (xs, p, no_member (part tests xs) (λ z m. mem-nil z (subst (λ rs. Contains rs z) none (in_rows xs p z m))))
    furthest way xs p (Some r) (m, all) =
        let b = (Contains-filter (meets tests) (rows_of_blocks blocks) r).0 m in
        let w = pick-with blocks xs r p b.0 in
        (w.0, w.1, ((Contains-filter (meets tests) w.0 r).1 (w.2, b.1), λ y n. all y (in_rows w.0 w.1 y n)))

    -- the same beside rows that don't meet the tests
    alone : (xs : List (List Value)) → ArePicked blocks xs → part tests xs ≡ [] → (o : Option (List Value)) → IsExtreme Up col (filter (meets tests) (rows_of_blocks blocks)) o →
        (ys : List (List Value)) × ArePicked blocks ys × IsExtreme Down col (part tests ys) o
    alone xs p e None none = (xs, p, e)
    alone xs p e (Some r) (m, all) =
        let b = (Contains-filter (meets tests) (rows_of_blocks blocks) r).0 m in
        let w = pick-with blocks xs r p b.0 in (
          w.0,
          w.1,
          (
            (Contains-filter (meets tests) w.0 r).1 (w.2, b.1),
            λ y n. let k = (Contains-filter (meets tests) w.0 y).0 n in elim (w.3 y k.0) [
              | inl same ↦ subst (λ z. Before Down (cell z col) (cell r col)) (sym same) (before-self Down (cell r col))
              | inr old ↦ absurd (mem-nil y (subst (λ zs. Contains zs y) e ((Contains-filter (meets tests) xs y).1 (old, k.1))))
            ],
          ),
        )

    -- no picked row lies further
    below : (way : Way) (kept : List (List Value)) → ArePicked blocks kept → (o : Option (List Value)) → IsExtreme way col (filter (meets tests) (rows_of_blocks blocks)) o → (y : List Value) → Contains (part tests kept) y →
        (r : List Value) × (o ≡ Some r) × Before way (cell y col) (cell r col)
    below way kept p None none y m = absurd (mem-nil y (subst (λ rs. Contains rs y) none (in_rows kept p y m)))
    below way kept p (Some r) (mr, all) y m = (r, refl, all y (in_rows kept p y m))

    pub greatest-group : (t : Peak) → IsPeakSettled Up (meets tests) col blocks t → AreFar Up (meets tests) col (rows_of_blocks blocks) t → HasRange (Max col) (as_end col (option_copied t.sure)) (as_end col (option_copied t.far))
    greatest-group t s f =
        let xs = s.sure.picks in
        let px = avoiding Up xs s.sure.picked in
        let y = furthest Up xs px (option_copied t.far) f.far in
        ranged (Max col) (as_end col (option_copied t.sure)) (as_end col (option_copied t.far)) xs y.0 px y.1
        (to-greatest col (part tests xs) (option_copied t.sure) s.sure.is) (to-greatest col (part tests y.0) (option_copied t.far) y.2)
        (λ kept end p v. let o = of-greatest col (part tests kept) end v in
        subst (λ e. IsUpTo (as_end col (option_copied t.sure)) e × IsUpTo e (as_end col (option_copied t.far))) (sym o.1) (lower kept p (option_copied t.sure) s.sure.is o.0 o.2, upper kept p o.0 o.2))
      where
        lower : (kept : List (List Value)) → ArePicked blocks kept → (a : Option (List Value)) → IsExtreme Up col (part tests s.sure.picks) a → (o : Option (List Value)) → IsExtreme Up col (part tests kept) o → IsUpTo (as_end col a) (as_end col o)
        lower kept p None e o x = tt
        lower kept p (Some r) e o x = let n = near-from Up tests col blocks s.sure.picks kept p s.sure.picked r e o x in subst (λ q. IsUpTo (Held (cell r col)) (as_end col q)) (sym n.1) n.2

        upper : (kept : List (List Value)) → ArePicked blocks kept → (o : Option (List Value)) → IsExtreme Up col (part tests kept) o → IsUpTo (as_end col o) (as_end col (option_copied t.far))
        upper kept p None x = tt
        upper kept p (Some y) (m, all) = let n = below Up kept p (option_copied t.far) f.far y m in subst (λ q. IsUpTo (Held (cell y col)) (as_end col q)) (sym n.1) n.2

    -- a block is sure
    least-sure : (t : Peak) (x : List Value) → option_copied t.sure ≡ Some x → IsPeakSettled Down (meets tests) col blocks t → AreFar Down (meets tests) col (rows_of_blocks blocks) t → HasRange (Min col) (as_end col (option_copied t.far)) (Held (cell x col))
    least-sure t x e s f =
        let xs = s.sure.picks in
        let px = avoiding Down xs s.sure.picked in
        let ex : IsExtreme Down col (part tests xs) (Some x) = subst (IsExtreme Down col (part tests xs)) e s.sure.is in
        let y = furthest Down xs px (option_copied t.far) f.far in
        ranged (Min col) (as_end col (option_copied t.far)) (Held (cell x col)) y.0 xs y.1 px
        (to-least col (part tests y.0) (option_copied t.far) y.2) (to-least col (part tests xs) (Some x) ex)
        (λ kept end p v. let o = of-least col (part tests kept) end v in
        let n = near-from Down tests col blocks xs kept p s.sure.picked x ex o.0 o.2 in
        let b = below Down kept p (option_copied t.far) f.far n.0 (subst (IsExtreme Down col (part tests kept)) n.1 o.2).0 in
        subst (λ z. IsUpTo (as_end col (option_copied t.far)) z × IsUpTo z (Held (cell x col))) (sym (o.1 ∙ ap (as_end col) n.1))
        (subst (λ q. IsUpTo (as_end col q) (Held (cell n.0 col))) (sym b.1) b.2, n.2))

    -- none is
    least-loose : (t : Peak) → option_copied t.sure ≡ None → IsPeakSettled Down (meets tests) col blocks t → AreFar Down (meets tests) col (rows_of_blocks blocks) t → HasRange (Min col) Empty (as_end col (option_copied t.top))
    least-loose t e s f =
        let xs = s.sure.picks in
        let px = avoiding Down xs s.sure.picked in
        let none : part tests xs ≡ [] = subst (IsExtreme Down col (part tests xs)) e s.sure.is in
        let y = alone xs px none (option_copied t.top) f.top in
        ranged (Min col) Empty (as_end col (option_copied t.top)) xs y.0 px y.1
        none (to-least col (part tests y.0) (option_copied t.top) y.2)
        (λ kept end p v. let o = of-least col (part tests kept) end v in (tt, subst (λ z. IsUpTo z (as_end col (option_copied t.top))) (sym o.1) (upper kept p o.0 o.2)))
      where
        upper : (kept : List (List Value)) → ArePicked blocks kept → (o : Option (List Value)) → IsExtreme Down col (part tests kept) o → IsUpTo (as_end col o) (as_end col (option_copied t.top))
        upper kept p None x = tt
        upper kept p (Some y) (m, all) = let n = below Up kept p (option_copied t.top) f.top y m in subst (λ q. IsUpTo (Held (cell y col)) (as_end col q)) (sym n.1) n.2

    least-group : (tally : Tally) (o : Option (List Value)) → option_copied (peak_of (Some tally)).sure ≡ o → IsPeakSettled Down (meets tests) col blocks (peak_of (Some tally)) → AreFar Down (meets tests) col (rows_of_blocks blocks) (peak_of (Some tally)) →
        HasRange (Min col) (low_end (Min col) tally) (high_end (Min col) tally)
    least-group tally None e s f =
        subst (λ q. HasRange (Min col) (least_low col q (peak_of (Some tally))) (least_high col q (peak_of (Some tally)))) (sym e) (least-loose (peak_of (Some tally)) e s f)
    least-group tally (Some x) e s f =
        subst (λ q. HasRange (Min col) (least_low col q (peak_of (Some tally))) (least_high col q (peak_of (Some tally)))) (sym e) (least-sure (peak_of (Some tally)) x e s f)

  pub group-range : (goal : Goal) (tally : Tally) → IsWhole goal (meets tests) blocks (Some tally) → HasRange goal (low_end goal tally) (high_end goal tally)
  group-range Count tally w = sums-range Count (λ row. pos 1) (λ kept. pos (length (part tests kept))) (λ kept end v. v) (λ kept. refl) (λ kept. count-is tests kept) (total_of (Some tally)) w
  group-range (Sum col) tally w =
      sums-range (Sum col) (λ row. number_of (cell row col)) (λ kept. total (λ row. number_of (cell row col)) (part tests kept)) (λ kept end v. v) (λ kept. refl) (λ kept. sum-is tests (λ row. number_of (cell row col)) kept) (total_of (Some tally)) w
  group-range (Min col) tally (s, f) = least-group col tally (option_copied (peak_of (Some tally)).sure) refl s f
  group-range (Max col) tally (s, f) = greatest-group col (peak_of (Some tally)) s f

-- the ends of a count or a sum
pub whole-sums : (goal : Goal) → IsTotal goal → (p : List Value → Bool) (blocks : List (List (List Value))) (tally : Tally) → IsWhole goal p blocks (Some tally) → AreSums (worth p (added goal)) blocks (total_of (Some tally))
whole-sums Count t p blocks tally w = w
whole-sums (Sum col) t p blocks tally w = w
whole-sums (Min col) t p blocks tally w = absurd t
whole-sums (Max col) t p blocks tally w = absurd t

pub total-ends : (goal : Goal) → IsTotal goal → (tally : Tally) (least greatest : End) → least ≡ Number ((total_of (Some tally)).low +ℤ (total_of (Some tally)).least) → greatest ≡ Number ((total_of (Some tally)).high +ℤ (total_of (Some tally)).most) →
    HasEnds goal tally least greatest
total-ends Count t tally least greatest l g = record { low = l; high = g }
total-ends (Sum col) t tally least greatest l g = record { low = l; high = g }
total-ends (Min col) t tally least greatest l g = absurd t
total-ends (Max col) t tally least greatest l g = absurd t
