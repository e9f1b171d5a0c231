-- The range of an aggregate over witnesses: the repairs are finitely many, in each it has a value, and any two values can be compared.
use Rattle.std.proofs.Common.{◌≡◌, ◌<◌, ◌⊎◌, inl, inr, ℕ, Bool, List, [], ◌∷◌, length, get_or, map, filter, refl, sym, ◌∙◌, subst, arith, Contains}
use Rattle.std.specs.List.Sorted.{IsStrictlySortedBy}
use Rattle.std.specs.Ordering.{nat_cmp}
use native.Mathlib.Decide.{ℕ_discrete, dec_lt}
use Rattle.cqa_value.specs.declared.value.Value.{Value}
use Rattle.cqa_value.proofs.Words.{is_yes, yes_of, of_yes, dec_both, mem-head, mem-nil, Contains-map, Contains-from_map, Contains-filter}
use Rattle.aggregate_range.specs.declared.aggregate.Goal.{Goal}
use Rattle.aggregate_range.specs.declared.aggregate.Goal.TheVariants.{Count, Sum, Min, Max}
use Rattle.aggregate_range.specs.declared.aggregate.End.{End}
use Rattle.aggregate_range.specs.declared.aggregate.End.TheVariants.{Empty, Number, Held}
use Rattle.cqa_model.specs.declared.query.Query.{Query}
use Rattle.cqa_model.specs.declared.query.RowId.{RowId}
use Rattle.cqa_model.specs.Database.{Table, stored, keys_of}
use Rattle.cqa_model.specs.Query.{atom_at, rows_of, row_at}
use Rattle.cqa_model.specs.Repairs.{IsTableRepair, IsRepair}
use Rattle.cqa_model.proofs.Classic.{dec_below}
use Rattle.cqa_model.proofs.EachRepair.{sublists, sublists-all, dec_table}
use Rattle.cqa_model.proofs.Existence.{some_repair}
use Rattle.cqa_model.proofs.Values.{dec_by}
use Rattle.existence_law.proofs.Choices.{choices, choices-all}
use Rattle.existence_law.proofs.Extremes.{first_among}
use Rattle.existence_law.proofs.Ranging.{up_self, up_trans, value_in, same_up, either_up}
use Rattle.existence_law.proofs.Rejecting.{places, rise, within, rows, size}
use Rattle.join_witness.proofs.Listing.{all_names}
use Rattle.range_ask.specs.declared.range.Range.{Range}
use Rattle.range_ask.specs.Ranges.{IsLeastValue, IsGreatestValue, HasValue, IsUpTo}
use Rattle.range_ask.specs.Walking.{IsTotal}
use Rattle.range_join.specs.declared.sought.Sought.{Sought}
use Rattle.range_join.specs.Joins.{IsAnyWitness, AreWitnessesIn, HasJoinValue, IsPartAttained, IsPartRange}
use Rattle.range_join.specs.Parts.{AreNamesIn}
use Rattle.range_join.specs.Worths.{named_row, sum_of, worth_at, adds}
use Rattle.range_join.proofs.Adding.{once_from, once_to, once-filter}
use Rattle.range_join.proofs.Counted.{value-kept}
use Rattle.range_join.proofs.Kept.{all-names, kept-witnesses}
use Rattle.existence_law.specs.JoinRanges.{CanBeRanged, JoinRangesExist}
use Rattle.table_blocks.specs.Tables.{rows_in, names_in}

-- ---- two lists of the same rows

module _ (col : ℕ) (xs ys : List (List Value)) (to : (x : List Value) → Contains xs x → Contains ys x) (from : (x : List Value) → Contains ys x → Contains xs x) where
  none_too : (zs : List (List Value)) → ((x : List Value) → Contains zs x → Contains xs x) → xs ≡ [] → zs ≡ []
  none_too [] back e = refl
  none_too (z ∷ zs) back e = absurd (mem-nil z (subst (λ us. Contains us z) e (back z (mem-head z zs))))

  least_too : (end : End) → IsLeastValue col xs end → IsLeastValue col ys end
  least_too Empty h = none_too ys from h
  least_too (Number n) h = h
  least_too (Held v) h = ((h.0.0, to h.0.0 h.0.1, h.0.2), λ row m. h.1 row (from row m))

  greatest_too : (end : End) → IsGreatestValue col xs end → IsGreatestValue col ys end
  greatest_too Empty h = none_too ys from h
  greatest_too (Number n) h = h
  greatest_too (Held v) h = ((h.0.0, to h.0.0 h.0.1, h.0.2), λ row m. h.1 row (from row m))

-- ---- the repairs of a database

module _ (db : List Table) where
  dec_repair : (kept : List (List (List Value))) → Dec (IsRepair db kept)
  dec_repair kept = dec_by (λ p. record { size = p.0; each = p.1 }) (λ h. (h.size, h.each))
      (dec_both (ℕ_discrete (length kept) (length (stored db)))
      (dec_below (λ t. IsTableRepair (get_or (keys_of db) t []) (get_or (stored db) t []) (get_or kept t [])) (λ t. dec_table (get_or (keys_of db) t []) (get_or (stored db) t []) (get_or kept t [])) (length (stored db))))

  abbrev given : List (List (List (List Value)))
  given = choices (length (stored db)) (λ t. sublists (get_or (stored db) t []))

  abbrev repairs : List (List (List (List Value)))
  repairs = filter (λ kept. is_yes (dec_repair kept)) given

  are_repairs : (kept : List (List (List Value))) → Contains repairs kept → IsRepair db kept
  are_repairs kept m = of_yes (dec_repair kept) ((Contains-filter (λ k. is_yes (dec_repair k)) given kept).0 m).1

  all_repairs : (kept : List (List (List Value))) → IsRepair db kept → Contains repairs kept
  all_repairs kept r = (Contains-filter (λ k. is_yes (dec_repair k)) given kept).1
      (choices-all [] (length (stored db)) (λ t. sublists (get_or (stored db) t [])) kept r.size (λ t l. sublists-all (get_or kept t []) (get_or (stored db) t []) (r.each t l).stored), yes_of (dec_repair kept) r)

-- ---- the value in each of them

module _ (db : List Table) (q : Query) (lax : ℕ) (sought : Sought) (Of : List (List Value) → Type 0) (can : CanBeRanged db q lax sought) (d : (w : List (List Value)) → Of w ⊎ (Of w → ⊥)) where
  dec_of : (w : List (List Value)) → Dec (Of w)
  dec_of w = elim (d w) [ inl o ↦ yes o | inr f ↦ no f ]

  abbrev table : ℕ
  table = (atom_at q lax).table

  abbrev all : List (List RowId)
  all = (all_names db q []).0

  abbrev belongs : List RowId → Bool
  belongs names = is_yes (dec_of (map (named_row db) names))

  abbrev part : List (List RowId)
  part = filter belongs all

  part_names : AreNamesIn db q Of part
  part_names =
      let base = all-names db q can.fits all (all_names db q []).1 in
      record {
        once = once_to [] part (once-filter belongs all (once_from [] all base.once));
        exactly = λ names. (
          λ m. (let f = (Contains-filter belongs all names).0 m in (((base.exactly names).0 f.0).0, of_yes (dec_of (map (named_row db) names)) f.1)),
          λ h. (Contains-filter belongs all names).1 ((base.exactly names).1 (h.0, tt), yes_of (dec_of (map (named_row db) names)) h.1),
        );
      }

  module _ (kept : List (List (List Value))) (r : IsRepair db kept) where
    abbrev ys : List ℕ
    ys = places db kept r table

    rises : IsStrictlySortedBy nat_cmp ys
    rises = rise db kept r table (dec_lt table (length (stored db)))

    below : (y : ℕ) → Contains ys y → y < length (rows_of q (stored db) lax)
    below y m = (within db kept r table (dec_lt table (length (stored db))) y m).1

    is : rows_of q kept lax ≡ rows_in (rows_of q (stored db) lax) ys
    is = rows db kept r table (dec_lt table (length (stored db))) (let s = size db kept r in let l = can.fits.there lax can.inside in omega (arith, s, l))

    its_witnesses : (ws : List (List (List Value))) × AreWitnessesIn q Of kept ws
    its_witnesses = (_, kept-witnesses db q can.fits can.database lax can.strict can.inside Of part part_names kept r ys below is)

    its_value : (end : End) × HasJoinValue q Of sought kept end
    its_value =
        let w = its_witnesses in
        let v = value_in sought.goal (map (λ w. row_at w sought.atom) w.0) in
        (v.0, record { ws = w.0; are = w.1; value = v.1 })

    total_told : IsTotal sought.goal → (end : End) → HasJoinValue q Of sought kept end → end ≡ Number (sum_of (worth_at (adds db sought) lax part) ys)
    total_told t = value-kept db q can.fits can.database lax can.strict can.inside Of part part_names sought can.goal_inside kept r ys rises below is t

    -- two values in one repair are up to each other
    module _ (a b : End) (h : HasJoinValue q Of sought kept a) (k : HasJoinValue q Of sought kept b) where
      abbrev xs : List (List Value)
      xs = map (λ w. row_at w sought.atom) h.ws

      abbrev zs : List (List Value)
      zs = map (λ w. row_at w sought.atom) k.ws

      to : (x : List Value) → Contains xs x → Contains zs x
      to x m = let w = Contains-from_map (λ w. row_at w sought.atom) h.ws x m in
          subst (Contains zs) w.2 (Contains-map (λ w. row_at w sought.atom) k.ws w.0 ((k.are.exactly w.0).1 ((h.are.exactly w.0).0 w.1)))

      from : (x : List Value) → Contains zs x → Contains xs x
      from x m = let w = Contains-from_map (λ w. row_at w sought.atom) k.ws x m in
          subst (Contains xs) w.2 (Contains-map (λ w. row_at w sought.atom) h.ws w.0 ((h.are.exactly w.0).1 ((k.are.exactly w.0).0 w.1)))

      added : IsTotal sought.goal → IsUpTo a b
      added t = subst (IsUpTo a) (total_told t a h ∙ sym (total_told t b k)) (up_self a)

      up_to : (goal : Goal) → sought.goal ≡ goal → IsUpTo a b
      up_to Count e = added (subst IsTotal (sym e) tt)
      up_to (Sum col) e = added (subst IsTotal (sym e) tt)
      up_to (Min col) e = same_up (Min col) zs a b (least_too col xs zs to from a (subst (λ g. HasValue g xs a) e h.value)) (subst (λ g. HasValue g zs b) e k.value)
      up_to (Max col) e = same_up (Max col) zs a b (greatest_too col xs zs to from a (subst (λ g. HasValue g xs a) e h.value)) (subst (λ g. HasValue g zs b) e k.value)

      one_value : IsUpTo a b
      one_value = up_to sought.goal refl

  -- ---- the least and the greatest

  abbrev end_if : (kept : List (List (List Value))) → Dec (IsRepair db kept) → End
  end_if kept (yes r) = (its_value kept r).0
  end_if kept (no f) = Empty

  abbrev end_of : List (List (List Value)) → End
  end_of kept = end_if kept (dec_repair db kept)

  has_if : (kept : List (List (List Value))) → IsRepair db kept → (c : Dec (IsRepair db kept)) → HasJoinValue q Of sought kept (end_if kept c)
  has_if kept r (yes s) = (its_value kept s).1
  has_if kept r (no f) = absurd (f r)

  has : (kept : List (List (List Value))) → IsRepair db kept → HasJoinValue q Of sought kept (end_of kept)
  has kept r = has_if kept r (dec_repair db kept)

  either_if : (x y : List (List (List Value))) (c : Dec (IsRepair db x)) (e : Dec (IsRepair db y)) → IsUpTo (end_if x c) (end_if y e) ⊎ IsUpTo (end_if y e) (end_if x c)
  either_if x y (no f) e = inl tt
  either_if x y (yes r) (no f) = inr tt
  either_if x y (yes r) (yes s) =
      either_up sought.goal (map (λ w. row_at w sought.atom) (its_value x r).1.ws) (map (λ w. row_at w sought.atom) (its_value y s).1.ws) (its_value x r).0 (its_value y s).0 (its_value x r).1.value (its_value y s).1.value

  abbrev IsBelow : List (List (List Value)) → List (List (List Value)) → Type 0
  IsBelow x y = IsUpTo (end_of x) (end_of y)

  either : (x y : List (List (List Value))) → IsBelow x y ⊎ IsBelow y x
  either x y = either_if x y (dec_repair db x) (dec_repair db y)

  some : (kept : List (List (List Value))) × IsRepair db kept
  some = some_repair (keys_of db) (stored db)

  low : (kept : List (List (List Value))) × (Contains (repairs db) kept × ((y : List (List (List Value))) → Contains (repairs db) y → IsBelow kept y))
  low = first_among IsBelow (λ x. up_self (end_of x)) either (λ x y z h k. up_trans (end_of x) (end_of y) (end_of z) h k) (repairs db) some.0 (all_repairs db some.0 some.1)

  high : (kept : List (List (List Value))) × (Contains (repairs db) kept × ((y : List (List (List Value))) → Contains (repairs db) y → IsBelow y kept))
  high = first_among (λ x y. IsBelow y x) (λ x. up_self (end_of x)) (λ x y. either y x) (λ x y z h k. up_trans (end_of z) (end_of y) (end_of x) k h) (repairs db) some.0 (all_repairs db some.0 some.1)

  attained : (kept : List (List (List Value))) (r : IsRepair db kept) → IsPartAttained db q lax Of sought (names_in table (places db kept r table)) (end_of kept)
  attained kept r = record { places = ys kept r; named = refl; rises = rises kept r; kept = kept; repair = r; rows = is kept r; value = has kept r }

  pub part_range : (range : Range) × IsPartRange db q lax Of sought range
  part_range =
      let from = are_repairs db low.0 low.1.0 in
      let to = are_repairs db high.0 high.1.0 in (
        record { least = end_of low.0; low = names_in table (ys low.0 from); greatest = end_of high.0; high = names_in table (ys high.0 to) },
        record {
          from = attained low.0 from;
          to = attained high.0 to;
          between = λ kept end r v. (
            up_trans (end_of low.0) (end_of kept) end (low.1.1 kept (all_repairs db kept r)) (one_value kept r (end_of kept) end (has kept r) v),
            up_trans end (end_of kept) (end_of high.0) (one_value kept r end (end_of kept) v (has kept r)) (high.1.1 kept (all_repairs db kept r)),
          );
        },
      )

pub join_ranges_exist : JoinRangesExist
join_ranges_exist db q lax sought can = part_range db q lax sought IsAnyWitness can (λ w. inl tt)
