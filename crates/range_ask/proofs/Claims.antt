-- Between which ends the least and the greatest value of picked rows lies, and that ends are one.
use Rattle.std.proofs.Common.{◌≡◌, ℕ, true, false, List, Option, Some, None, Contains, refl, sym, ap, subst, arith}
use Rattle.std.specs.Prelude.{ℤ, ◌≤ℤ◌}
use Rattle.std.specs.List.{AllZip}
use Rattle.std.proofs.lemmas.Int.{ints}
use Rattle.cqa_value.specs.declared.value.Value.{Value}
use Rattle.cqa_value.proofs.Words.{Contains-filter, all_zip_right, clash}
use Rattle.aggregate_range.specs.declared.aggregate.End.{End}
use Rattle.aggregate_range.specs.declared.aggregate.End.TheVariants.{Empty, Number, Held}
use Rattle.cqa_model.proofs.Classic.{mem-nil}
use Rattle.table_blocks.specs.declared.test.ColumnTest.{ColumnTest}
use Rattle.range_ask.specs.declared.way.Way.{Way}
use Rattle.range_ask.specs.declared.way.Way.TheVariants.{Up, Down}
use Rattle.range_ask.specs.Laws.{EndsAreOne}
use Rattle.range_ask.specs.Ranges.{cell, meets, part, AtMost, IsLeastValue, IsGreatestValue, IsUpTo}
use Rattle.range_ask.specs.Picks.{ArePicked, Before, IsExtreme, AvoidsFar, MeetsFar}
use Rattle.range_ask.specs.Reaching.{as_end}
use Rattle.join_access.proofs.Naming.{zip-left}
use Rattle.range_ask.proofs.Ordered.{at_most-both, before-trans}

-- ---- ends are one

same-number : (m n : ℤ) → m ≤ℤ n → n ≤ℤ m → m ≡ n
same-number m n h k = omega (arith, ints, h, k)

up_to-both : (a b : End) → IsUpTo a b → IsUpTo b a → a ≡ b
up_to-both Empty Empty h k = refl
up_to-both Empty (Number n) h k = absurd k
up_to-both Empty (Held y) h k = absurd k
up_to-both (Number m) Empty h k = absurd h
up_to-both (Number m) (Number n) h k = ap Number (same-number m n h k)
up_to-both (Number m) (Held y) h k = absurd h
up_to-both (Held x) Empty h k = absurd h
up_to-both (Held x) (Number n) h k = absurd h
up_to-both (Held x) (Held y) h k = ap Held (at_most-both x y h k)

pub ends_are_one : EndsAreOne
ends_are_one db table goal tests a b r s = (
  up_to-both a.least b.least (r.between _ b.least s.from.repair s.from.value).0 (s.between _ a.least r.from.repair r.from.value).0,
  up_to-both a.greatest b.greatest (s.between _ a.greatest r.to.repair r.to.value).1 (r.between _ b.greatest s.to.repair s.to.value).1,
)

-- ---- an end is the value of a row

pub of-greatest : (col : ℕ) (rows : List (List Value)) (end : End) → IsGreatestValue col rows end → (o : Option (List Value)) × (end ≡ as_end col o) × IsExtreme Up col rows o
of-greatest col rows Empty h = (None, refl, h)
of-greatest col rows (Number n) h = absurd h
of-greatest col rows (Held v) ((row, m, e), all) = (Some row, ap Held (sym e), (m, λ y n. subst (λ u. AtMost (cell y col) u) (sym e) (all y n)))

pub of-least : (col : ℕ) (rows : List (List Value)) (end : End) → IsLeastValue col rows end → (o : Option (List Value)) × (end ≡ as_end col o) × IsExtreme Down col rows o
of-least col rows Empty h = (None, refl, h)
of-least col rows (Number n) h = absurd h
of-least col rows (Held v) ((row, m, e), all) = (Some row, ap Held (sym e), (m, λ y n. subst (λ u. AtMost u (cell y col)) (sym e) (all y n)))

pub to-greatest : (col : ℕ) (rows : List (List Value)) (o : Option (List Value)) → IsExtreme Up col rows o → IsGreatestValue col rows (as_end col o)
to-greatest col rows None h = h
to-greatest col rows (Some x) (m, all) = ((x, m, refl), all)

pub to-least : (col : ℕ) (rows : List (List Value)) (o : Option (List Value)) → IsExtreme Down col rows o → IsLeastValue col rows (as_end col o)
to-least col rows None h = h
to-least col rows (Some x) (m, all) = ((x, m, refl), all)

-- ---- picked rows beside those that are chosen

module _ (way : Way) (tests : List ColumnTest) (col : ℕ) where
  in_part : (xs : List (List Value)) (x : List Value) → Contains xs x → meets tests x ≡ true → Contains (part tests xs) x
  in_part xs x m e = (Contains-filter (meets tests) xs x).1 (m, e)

  of_part : (xs : List (List Value)) (x : List Value) → Contains (part tests xs) x → Contains xs x × (meets tests x ≡ true)
  of_part xs x m = (Contains-filter (meets tests) xs x).0 m

  -- a row lies no less far than another, so one lies furthest, no less far than that
  reached : (x : List Value) (zs : List (List Value)) (o : Option (List Value)) (y : List Value) → Contains (part tests zs) y → Before way (cell x col) (cell y col) → IsExtreme way col (part tests zs) o →
      (w : List Value) × (o ≡ Some w) × Before way (cell x col) (cell w col)
  reached x zs None y m l e = absurd (mem-nil y (subst (λ rows. Contains rows y) e m))
  reached x zs (Some w) y m l (mw, all) = (w, refl, before-trans way (cell x col) (cell y col) (cell w col) l (all y m))

  module _ (blocks : List (List (List Value))) (xs ys : List (List Value)) (picked : ArePicked blocks ys) where
    -- a row that avoids the tests and meets them: a picked row of its block meets them, and lies no less far
    pub near-from : AllZip (AvoidsFar way (meets tests) col) blocks xs → (x : List Value) → IsExtreme way col (part tests xs) (Some x) → (o : Option (List Value)) → IsExtreme way col (part tests ys) o →
        (w : List Value) × (o ≡ Some w) × Before way (cell x col) (cell w col)
    near-from h x (mx, all) o e =
        let px = of_part xs x mx in
        let b = all_zip_right (AvoidsFar way (meets tests) col) blocks xs x h px.0 in
        let y = zip-left (λ (c : List (List Value)) z. Contains c z) blocks ys picked b.0 b.1 in
        let near = b.2.else_near px.1 y.0 y.2 in
        reached x ys o y.0 (in_part ys y.0 y.1 near.0) near.1 e

    -- a picked row that meets the tests: the chosen row of its block meets them, and lies no less far
    pub far-from : AllZip (MeetsFar way (meets tests) col) blocks xs → (o : Option (List Value)) → IsExtreme way col (part tests xs) o → (y : List Value) → IsExtreme way col (part tests ys) (Some y) →
        (w : List Value) × (o ≡ Some w) × Before way (cell y col) (cell w col)
    far-from h o e y (my, all) =
        let py = of_part ys y my in
        let b = all_zip_right (λ (c : List (List Value)) z. Contains c z) blocks ys y picked py.0 in
        let x = zip-left (MeetsFar way (meets tests) col) blocks xs h b.0 b.1 in
        let far = x.2.far y b.2 py.1 in
        reached y xs o x.0 (in_part xs x.0 x.1 far.0) far.1 e

module _ (tests : List ColumnTest) (col : ℕ) (blocks : List (List (List Value))) (xs zs : List (List Value)) where
  -- the greatest value lies between that of rows that avoid the tests and that of rows of greatest values
  pub greatest-between : AllZip (AvoidsFar Up (meets tests) col) blocks xs → AllZip (MeetsFar Up (meets tests) col) blocks zs → (a b : Option (List Value)) →
      IsExtreme Up col (part tests xs) a → IsExtreme Up col (part tests zs) b → (ys : List (List Value)) → ArePicked blocks ys → (end : End) → IsGreatestValue col (part tests ys) end →
      IsUpTo (as_end col a) end × IsUpTo end (as_end col b)
  greatest-between h k a b ea eb ys picked end g =
      let o = of-greatest col (part tests ys) end g in
      subst (λ e. IsUpTo (as_end col a) e × IsUpTo e (as_end col b)) (sym o.1) (lower a ea o.0 o.2, upper o.0 o.2)
    where
      lower : (a : Option (List Value)) → IsExtreme Up col (part tests xs) a → (o : Option (List Value)) → IsExtreme Up col (part tests ys) o → IsUpTo (as_end col a) (as_end col o)
      lower None e o f = tt
      lower (Some x) e o f = let n = near-from Up tests col blocks xs ys picked h x e o f in subst (λ r. IsUpTo (Held (cell x col)) (as_end col r)) (sym n.1) n.2

      upper : (o : Option (List Value)) → IsExtreme Up col (part tests ys) o → IsUpTo (as_end col o) (as_end col b)
      upper None f = tt
      upper (Some y) f = let n = far-from Up tests col blocks zs ys picked k b eb y f in subst (λ r. IsUpTo (Held (cell y col)) (as_end col r)) (sym n.1) n.2

  -- where a row that avoids the tests meets them, the least value lies between that of rows of least values and that of rows that avoid
  pub least-between : AllZip (AvoidsFar Down (meets tests) col) blocks xs → AllZip (MeetsFar Down (meets tests) col) blocks zs → (x : List Value) (b : Option (List Value)) →
      IsExtreme Down col (part tests xs) (Some x) → IsExtreme Down col (part tests zs) b → (ys : List (List Value)) → ArePicked blocks ys → (end : End) → IsLeastValue col (part tests ys) end →
      IsUpTo (as_end col b) end × IsUpTo end (Held (cell x col))
  least-between h k x b ex eb ys picked end l =
      let o = of-least col (part tests ys) end l in
      let n = near-from Down tests col blocks xs ys picked h x ex o.0 o.2 in
      let f = far-from Down tests col blocks zs ys picked k b eb n.0 (subst (IsExtreme Down col (part tests ys)) n.1 o.2) in
      subst (λ e. IsUpTo (as_end col b) e × IsUpTo e (Held (cell x col))) (sym o.1)
      (subst (λ r. IsUpTo (as_end col b) (as_end col r) × IsUpTo (as_end col r) (Held (cell x col))) (sym n.1)
      (subst (λ r. IsUpTo (as_end col r) (Held (cell n.0 col))) (sym f.1) f.2, n.2))

  -- no value lies above that of the row whose value is greatest of all that meet the tests
  pub least-below : (rows : List (List Value)) (top : Option (List Value)) → ((x : List Value) → top ≡ Some x → (y : List Value) → Contains rows y → meets tests y ≡ true → AtMost (cell y col) (cell x col)) →
      (top ≡ None → (y : List Value) → Contains rows y → meets tests y ≡ false) → (ys : List (List Value)) → ((y : List Value) → Contains ys y → Contains rows y) → (end : End) → IsLeastValue col (part tests ys) end →
      IsUpTo end (as_end col top)
  least-below rows top best none ys from end l = let o = of-least col (part tests ys) end l in subst (λ e. IsUpTo e (as_end col top)) (sym o.1) (go o.0 o.2)
    where
      at : (y : List Value) → Contains rows y → meets tests y ≡ true → (t : Option (List Value)) → top ≡ t → IsUpTo (Held (cell y col)) (as_end col t)
      at y m e None is = absurd (clash (meets tests y) e (none is y m))
      at y m e (Some x) is = best x is y m e

      go : (o : Option (List Value)) → IsExtreme Down col (part tests ys) o → IsUpTo (as_end col o) (as_end col top)
      go None f = tt
      go (Some y) (m, all) = let p = of_part Down tests col ys y m in at y (from y p.0) p.1 top refl
