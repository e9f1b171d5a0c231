-- The range of an aggregate: its repairs are finitely many, in each it has a value, and any two values of one aggregate can be compared.
use Rattle.std.proofs.Common.{◌≡◌, ◌⊎◌, inl, inr, ℕ, List, [], ◌∷◌, filter, Ordering, Less, Equal, Greater, refl, sym, ap, ◌∙◌, subst, arith, Contains}
use Rattle.std.specs.Prelude.{ℤ, ◌≤ℤ◌}
use Rattle.std.specs.Ordering.{ordering_reverse}
use Rattle.std.proofs.lemmas.Int.{ints}
use Rattle.cqa_value.specs.declared.value.Value.{Value}
use Rattle.cqa_value.specs.Values.{value_cmp, value_cmp_total}
use Rattle.cqa_value.proofs.Words.{mem-head, mem-nil, Contains-filter, is_yes, yes_of, of_yes}
use Rattle.aggregate_range.specs.declared.aggregate.Goal.{Goal}
use Rattle.aggregate_range.specs.declared.aggregate.Goal.TheVariants.{Count, Sum, Min, Max}
use Rattle.aggregate_range.specs.declared.aggregate.End.{End}
use Rattle.aggregate_range.specs.declared.aggregate.End.TheVariants.{Empty, Number, Held}
use Rattle.cqa_model.specs.Database.{Table}
use Rattle.cqa_model.specs.Repairs.{IsTableRepair}
use Rattle.cqa_model.proofs.EachRepair.{sublists, sublists-all, dec_table}
use Rattle.cqa_model.proofs.Existence.{last_rows, last_rows-repair}
use Rattle.table_blocks.specs.declared.test.ColumnTest.{ColumnTest}
use Rattle.table_blocks.specs.Tables.{rows_at, key_at, rows_in, names_in}
use Rattle.range_ask.specs.declared.range.Range.{Range}
use Rattle.range_ask.specs.declared.way.Way.TheVariants.{Up}
use Rattle.range_ask.specs.Ranges.{cell, part, total, number_of, AtMost, IsLeastValue, IsGreatestValue, HasValue, IsUpTo, IsAttained, IsRange}
use Rattle.range_ask.proofs.Ordered.{before-self, at_most-trans}
use Rattle.existence_law.specs.Ranges.{RangesExist}
use Rattle.existence_law.proofs.Extremes.{first_among}
use Rattle.existence_law.proofs.Rejecting.{places_from, places-rise, rows-at_places}

-- ---- values that are compared

at_most_self : (x : Value) → AtMost x x
at_most_self x = before-self Up x

at_most_either : (x y : Value) → AtMost x y ⊎ AtMost y x
at_most_either x y = go (value_cmp x y) refl (value_cmp_total.antisymm y x)
  where
    go : (o : Ordering) → value_cmp x y ≡ o → value_cmp y x ≡ ordering_reverse (value_cmp x y) → AtMost x y ⊎ AtMost y x
    go Less e r = inl (λ g. let c : Less ≡ Greater = sym e ∙ g in cc c)
    go Equal e r = inl (λ g. let c : Equal ≡ Greater = sym e ∙ g in cc c)
    go Greater e r = inr (λ g. let c : Less ≡ Greater = ap ordering_reverse (sym e) ∙ sym r ∙ g in cc c)

number_self : (m : ℤ) → m ≤ℤ m
number_self m = omega (arith, ints)

number_either : (m n : ℤ) → (m ≤ℤ n) ⊎ (n ≤ℤ m)
number_either m n = grind (arith, ints)

number_trans : (m n p : ℤ) → m ≤ℤ n → n ≤ℤ p → m ≤ℤ p
number_trans m n p h k = omega (arith, ints, h, k)

pub up_self : (a : End) → IsUpTo a a
up_self Empty = tt
up_self (Number m) = number_self m
up_self (Held x) = at_most_self x

pub up_trans : (a b c : End) → IsUpTo a b → IsUpTo b c → IsUpTo a c
up_trans Empty b c h k = tt
up_trans (Number m) Empty c h k = absurd h
up_trans (Number m) (Number n) Empty h k = absurd k
up_trans (Number m) (Number n) (Number p) h k = number_trans m n p h k
up_trans (Number m) (Number n) (Held z) h k = absurd k
up_trans (Number m) (Held y) c h k = absurd h
up_trans (Held x) Empty c h k = absurd h
up_trans (Held x) (Number n) c h k = absurd h
up_trans (Held x) (Held y) Empty h k = absurd k
up_trans (Held x) (Held y) (Number p) h k = absurd k
up_trans (Held x) (Held y) (Held z) h k = at_most-trans x y z h k

-- ---- the value of an aggregate in some rows

module _ (col : ℕ) where
  least_in : (rows : List (List Value)) → (end : End) × IsLeastValue col rows end
  least_in [] = (Empty, refl)
  least_in (row ∷ rows) =
      let m = first_among (λ x y. AtMost (cell x col) (cell y col)) (λ x. at_most_self (cell x col)) (λ x y. at_most_either (cell x col) (cell y col))
      (λ x y z. at_most-trans (cell x col) (cell y col) (cell z col)) (row ∷ rows) row (mem-head row rows) in
      (Held (cell m.0 col), ((m.0, m.1.0, refl), m.1.1))

  greatest_in : (rows : List (List Value)) → (end : End) × IsGreatestValue col rows end
  greatest_in [] = (Empty, refl)
  greatest_in (row ∷ rows) =
      let m = first_among (λ x y. AtMost (cell y col) (cell x col)) (λ x. at_most_self (cell x col)) (λ x y. at_most_either (cell y col) (cell x col))
      (λ x y z h k. at_most-trans (cell z col) (cell y col) (cell x col) k h) (row ∷ rows) row (mem-head row rows) in
      (Held (cell m.0 col), ((m.0, m.1.0, refl), m.1.1))

pub value_in : (goal : Goal) (rows : List (List Value)) → (end : End) × HasValue goal rows end
value_in Count rows = (Number _, refl)
value_in (Sum col) rows = (Number (total (λ row. number_of (cell row col)) rows), refl)
value_in (Min col) rows = least_in col rows
value_in (Max col) rows = greatest_in col rows

no_row : (rows : List (List Value)) (row : List Value) → rows ≡ [] → Contains rows row → ⊥
no_row rows row e m = mem-nil row (subst (λ xs. Contains xs row) e m)

-- two values of one aggregate in some rows are up to each other
pub same_up : (goal : Goal) (rows : List (List Value)) (a b : End) → HasValue goal rows a → HasValue goal rows b → IsUpTo a b
same_up Count rows a b h k = subst (λ z. IsUpTo z b) (sym h) (subst (IsUpTo (Number _)) (sym k) (number_self _))
same_up (Sum col) rows a b h k = subst (λ z. IsUpTo z b) (sym h) (subst (IsUpTo (Number _)) (sym k) (number_self _))
same_up (Min col) rows Empty b h k = tt
same_up (Min col) rows (Number m) b h k = absurd h
same_up (Min col) rows (Held x) Empty h k = absurd (no_row rows h.0.0 k h.0.1)
same_up (Min col) rows (Held x) (Number n) h k = absurd k
same_up (Min col) rows (Held x) (Held y) h k = subst (AtMost x) k.0.2 (h.1 k.0.0 k.0.1)
same_up (Max col) rows Empty b h k = tt
same_up (Max col) rows (Number m) b h k = absurd h
same_up (Max col) rows (Held x) Empty h k = absurd (no_row rows h.0.0 k h.0.1)
same_up (Max col) rows (Held x) (Number n) h k = absurd k
same_up (Max col) rows (Held x) (Held y) h k = subst (λ z. AtMost z y) h.0.2 (k.1 h.0.0 h.0.1)

-- two values of one aggregate, in any rows, can be compared
pub either_up : (goal : Goal) (xs ys : List (List Value)) (a b : End) → HasValue goal xs a → HasValue goal ys b → IsUpTo a b ⊎ IsUpTo b a
either_up goal xs ys Empty b h k = inl tt
either_up goal xs ys a Empty h k = inr tt
either_up goal xs ys (Number m) (Number n) h k = number_either m n
either_up goal xs ys (Held x) (Held y) h k = at_most_either x y
either_up Count xs ys (Number m) (Held y) h k = cc k
either_up Count xs ys (Held x) (Number n) h k = cc h
either_up (Sum col) xs ys (Number m) (Held y) h k = cc k
either_up (Sum col) xs ys (Held x) (Number n) h k = cc h
either_up (Min col) xs ys (Number m) (Held y) h k = absurd h
either_up (Min col) xs ys (Held x) (Number n) h k = absurd k
either_up (Max col) xs ys (Number m) (Held y) h k = absurd h
either_up (Max col) xs ys (Held x) (Number n) h k = absurd k

-- ---- the repairs of a table

module _ (db : List Table) (table : ℕ) (goal : Goal) (tests : List ColumnTest) where
  repairs : List (List (List Value))
  repairs = filter (λ kept. is_yes (dec_table (key_at db table) (rows_at db table) kept)) (sublists (rows_at db table))

  are_repairs : (kept : List (List Value)) → Contains repairs kept → IsTableRepair (key_at db table) (rows_at db table) kept
  unfolding repairs
  are_repairs kept m = of_yes (dec_table (key_at db table) (rows_at db table) kept) ((Contains-filter (λ k. is_yes (dec_table (key_at db table) (rows_at db table) k)) (sublists (rows_at db table)) kept).0 m).1

  all_repairs : (kept : List (List Value)) → IsTableRepair (key_at db table) (rows_at db table) kept → Contains repairs kept
  unfolding repairs
  all_repairs kept r = (Contains-filter (λ k. is_yes (dec_table (key_at db table) (rows_at db table) k)) (sublists (rows_at db table)) kept).1
      (sublists-all kept (rows_at db table) r.stored, yes_of (dec_table (key_at db table) (rows_at db table) kept) r)

  some : Contains repairs (last_rows (key_at db table) (rows_at db table))
  some = all_repairs (last_rows (key_at db table) (rows_at db table)) (last_rows-repair (key_at db table) (rows_at db table))

  value_of : (kept : List (List Value)) → (end : End) × HasValue goal (part tests kept) end
  value_of kept = value_in goal (part tests kept)

  abbrev IsBelow : List (List Value) → List (List Value) → Type 0
  IsBelow xs ys = IsUpTo (value_of xs).0 (value_of ys).0

  below_self : (xs : List (List Value)) → IsBelow xs xs
  below_self xs = same_up goal (part tests xs) (value_of xs).0 (value_of xs).0 (value_of xs).1 (value_of xs).1

  below_either : (xs ys : List (List Value)) → IsBelow xs ys ⊎ IsBelow ys xs
  below_either xs ys = either_up goal (part tests xs) (part tests ys) (value_of xs).0 (value_of ys).0 (value_of xs).1 (value_of ys).1

  below_trans : (xs ys zs : List (List Value)) → IsBelow xs ys → IsBelow ys zs → IsBelow xs zs
  below_trans xs ys zs h k = up_trans (value_of xs).0 (value_of ys).0 (value_of zs).0 h k

  low : (kept : List (List Value)) × (Contains repairs kept × ((ys : List (List Value)) → Contains repairs ys → IsBelow kept ys))
  low = first_among IsBelow below_self below_either below_trans repairs (last_rows (key_at db table) (rows_at db table)) some

  high : (kept : List (List Value)) × (Contains repairs kept × ((ys : List (List Value)) → Contains repairs ys → IsBelow ys kept))
  high = first_among (λ xs ys. IsBelow ys xs) below_self (λ xs ys. below_either ys xs) (λ xs ys zs h k. below_trans zs ys xs k h) repairs (last_rows (key_at db table) (rows_at db table)) some

  places : (kept : List (List Value)) → IsTableRepair (key_at db table) (rows_at db table) kept → List ℕ
  places kept r = places_from 0 kept (rows_at db table) r.stored

  attained : (kept : List (List Value)) (r : IsTableRepair (key_at db table) (rows_at db table) kept) → IsAttained db table goal tests (names_in table (places kept r)) (value_of kept).0
  unfolding places
  attained kept r =
      let same : kept ≡ rows_in (rows_at db table) (places_from 0 kept (rows_at db table) r.stored) = rows-at_places [] kept (rows_at db table) r.stored in
      record {
        places = places_from 0 kept (rows_at db table) r.stored;
        named = refl;
        rises = places-rise 0 kept (rows_at db table) r.stored;
        repair = subst (IsTableRepair (key_at db table) (rows_at db table)) same r;
        value = subst (λ xs. HasValue goal (part tests xs) (value_of kept).0) same (value_of kept).1;
      }

  range : (range : Range) × IsRange db table goal tests range
  range =
      let from = are_repairs low.0 low.1.0 in
      let to = are_repairs high.0 high.1.0 in (
        record { least = (value_of low.0).0; low = names_in table (places low.0 from); greatest = (value_of high.0).0; high = names_in table (places high.0 to) },
        record {
          from = attained low.0 from;
          to = attained high.0 to;
          between = λ kept end r h. (
            up_trans (value_of low.0).0 (value_of kept).0 end (low.1.1 kept (all_repairs kept r)) (same_up goal (part tests kept) (value_of kept).0 end (value_of kept).1 h),
            up_trans end (value_of kept).0 (value_of high.0).0 (same_up goal (part tests kept) end (value_of kept).0 h (value_of kept).1) (high.1.1 kept (all_repairs kept r)),
          );
        },
      )

pub ranges_exist : RangesExist
ranges_exist db table goal tests = range db table goal tests
