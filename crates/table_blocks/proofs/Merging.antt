-- Sorted rows that are put into others at their places.
use Rattle.std.proofs.Common.{◌≡◌, ◌⊎◌, ◌↔◌, inl, inr, zero, suc, ◌≤◌, ◌<◌, ◌+◌, ℕ, List, [], ◌∷◌, ◌++◌, length, take, drop, get_or, Contains, refl, sym, ap, ◌∙◌, subst, arith, length-append}
use Rattle.std.specs.List.{AllByRecursion}
use Rattle.std.specs.List.Sorted.{IsStrictlySortedBy}
use Rattle.std.specs.Cmp.{IsTotalOrder}
use Rattle.std.specs.Ordering.{ordering_reverse}
use Rattle.std.specs.declared.cmp.Ordering.{Ordering}
use Rattle.std.specs.declared.cmp.Ordering.TheVariants.{Less, Equal, Greater}
use Rattle.std.proofs.lemmas.List.Elements.{Contains-append_cases, Contains-append_left, Contains-append_right, Contains-get_or}
use Rattle.std.proofs.lemmas.List.{take-append-drop, take-append-le, length-take-le, get_or-drop, length-drop, take-take}
use Rattle.std.proofs.lemmas.Option.{slice_get-get_or}
use Rattle.cqa_value.proofs.Words.{mem-tail, mem-cases, mem-head, mem-nil, recursion_from_members, member_by_recursion, sorted_cons, sorted_join}
use Rattle.row_pieces.specs.Inserted.{with_item, with_items, AreRising}
use Rattle.row_pieces.proofs.Putting.{rising_low}
use Rattle.table_blocks.specs.Tables.{IsPlace, ArePlaces}
use Rattle.table_blocks.proofs.Placing.{places-long, place_order}
use Rattle.table_blocks.proofs.Sorting.{earlier_below, greater}

-- an item more is there
with_item-members : {A : Type 0} (at : ℕ) (y : A) (xs : List A) (x : A) → Contains (with_item at y xs) x ↔ ((y ≡ x) ⊎ Contains xs x)
with_item-members at y xs x =
    let whole = take-append-drop at xs in (
      λ h. elim (Contains-append_cases (take at xs) (y ∷ drop at xs) x h) [
        | inl f ↦ inr (subst (λ l. Contains l x) whole (Contains-append_left (take at xs) (drop at xs) x f))
        | inr b ↦ elim (mem-cases x y (drop at xs) b) [ inl e ↦ inl e | inr l ↦ inr (subst (λ l. Contains l x) whole (Contains-append_right (take at xs) (drop at xs) x l)) ]
      ],
      λ h. elim h [
        | inl e ↦ Contains-append_right (take at xs) (y ∷ drop at xs) x (subst (Contains (y ∷ drop at xs)) e (mem-head y (drop at xs)))
        | inr m ↦ elim (Contains-append_cases (take at xs) (drop at xs) x (subst (λ l. Contains l x) (sym whole) m)) [
          | inl f ↦ Contains-append_left (take at xs) (y ∷ drop at xs) x f
          | inr b ↦ Contains-append_right (take at xs) (y ∷ drop at xs) x (mem-tail x y (drop at xs) b)
        ]
      ],
    )

with_item-long : {A : Type 0} (at : ℕ) (y : A) (xs : List A) → length (with_item at y xs) ≡ length xs + 1
with_item-long at y xs =
    let more = length-append (take at xs) (y ∷ drop at xs) in
    let all = ap length (sym (take-append-drop at xs)) ∙ length-append (take at xs) (drop at xs) in
    omega (arith, more, all)

-- items that are put in are there beside those that were there, and each counts
pub with_items-members : {A : Type 0} (xs more : List A) (places : List ℕ) → length places ≡ length more → (x : A) → Contains (with_items xs more places) x ↔ (Contains xs x ⊎ Contains more x)
with_items-members xs [] places l x = (λ h. inl h, λ h. elim h [ inl m ↦ m | inr n ↦ absurd (mem-nil x n) ])
with_items-members xs (y ∷ more) [] l x = absurd (omega (arith, l))
with_items-members xs (y ∷ more) (at ∷ places) l x =
    let here = with_item-members at y (with_items xs more places) x in
    let rest = with_items-members xs more places (omega (arith, l)) x in (
      λ h. elim (here.0 h) [ inl e ↦ inr (subst (Contains (y ∷ more)) e (mem-head y more)) | inr m ↦ elim (rest.0 m) [ inl k ↦ inl k | inr k ↦ inr (mem-tail x y more k) ] ],
      λ h. here.1 (elim h [ inl k ↦ inr (rest.1 (inl k)) | inr k ↦ elim (mem-cases x y more k) [ inl e ↦ inl e | inr n ↦ inr (rest.1 (inr n)) ] ]),
    )

pub with_items-long : {A : Type 0} (xs more : List A) (places : List ℕ) → length places ≡ length more → length (with_items xs more places) ≡ length xs + length more
with_items-long xs [] places l = omega arith
with_items-long xs (y ∷ more) [] l = absurd (omega (arith, l))
with_items-long xs (y ∷ more) (at ∷ places) l =
    let one = with_item-long at y (with_items xs more places) in
    let rest = with_items-long xs more places (omega (arith, l)) in
    omega (arith, one, rest)

-- and none is lost
none_fewer : {A : Type 0} (xs more : List A) (places : List ℕ) → length xs ≤ length (with_items xs more places)
none_fewer xs [] places = omega arith
none_fewer xs (y ∷ more) [] = omega arith
none_fewer xs (y ∷ more) (at ∷ places) =
    let one = with_item-long at y (with_items xs more places) in
    let rest = none_fewer xs more places in
    omega (arith, one, rest)

-- what stands before all places stays
front_stays : {A : Type 0} (xs more : List A) (places : List ℕ) (from : ℕ) → AreRising from (length xs) places → take from (with_items xs more places) ≡ take from xs
front_stays xs [] places from rise = refl
front_stays xs (y ∷ more) [] from rise = refl
front_stays xs (y ∷ more) (at ∷ places) from rise =
    let grown = with_items xs more places in
    let within = rising_low at (length xs) places rise.1 in
    let more_long = none_fewer xs more places in
    let front = length-take-le at grown (omega (arith, within, more_long)) in
    let order = rise.0 in
    take-append-le from (take at grown) (y ∷ drop at grown) (omega (arith, order, front))
    ∙ ap (take from) (front_stays xs more places at rise.1) ∙ take-take from at xs rise.0

module _ {A : Type 0} (cmp : A → A → Ordering) (total : IsTotalOrder cmp) (exact : (a b : A) → cmp a b ≡ Equal → a ≡ b) (alike : (a : A) → cmp a a ≡ Equal) where
  pub sorted_front : (us vs : List A) → IsStrictlySortedBy cmp (us ++ vs) → IsStrictlySortedBy cmp us
  unfolding IsStrictlySortedBy
  sorted_front [] vs s = tt
  sorted_front (u ∷ us) vs s = (recursion_from_members (λ y. cmp u y ≡ Less) us (λ x m. member_by_recursion (λ y. cmp u y ≡ Less) (us ++ vs) s.0 x (Contains-append_left us vs x m)), sorted_front us vs s.1)

  pub sorted_back : (us vs : List A) → IsStrictlySortedBy cmp (us ++ vs) → IsStrictlySortedBy cmp vs
  unfolding IsStrictlySortedBy
  sorted_back [] vs s = s
  sorted_back (u ∷ us) vs s = sorted_back us vs s.1

  -- what stands before is below what stands behind
  pub across : (us vs : List A) → IsStrictlySortedBy cmp (us ++ vs) → (u v : A) → Contains us u → Contains vs v → cmp u v ≡ Less
  unfolding IsStrictlySortedBy
  across [] vs s u v m n = absurd (mem-nil u m)
  across (w ∷ us) vs s u v m n = elim (mem-cases u w us m) [
    | inl e ↦ subst (λ z. cmp z v ≡ Less) e (member_by_recursion (λ y. cmp w y ≡ Less) (us ++ vs) s.0 v (Contains-append_right us vs v n))
    | inr l ↦ across us vs s.1 u v l n
  ]

  -- what stands at its place or behind it is above it, where it isn't there itself
  above : (xs : List A) (y : A) (at : ℕ) → IsStrictlySortedBy cmp xs → IsPlace cmp xs y at → (Contains xs y → ⊥) → (x : A) → Contains (drop at xs) x → cmp y x ≡ Less
  above xs y at s p other x (k, b, e) =
      let long = length-drop at xs in
      let inside : at < length xs = omega (arith, b, long) in
      let first : cmp (get_or xs at x) y ≡ Greater = greater _ (p.stops _ (slice_get-get_or xs at x inside)) (λ q. other (subst (Contains xs) (exact _ _ q) (Contains-get_or xs at x inside))) in
      let less : cmp y (get_or xs at x) ≡ Less = total.antisymm y (get_or xs at x) ∙ ap ordering_reverse first in
      further k less (sym (get_or-drop at xs k x) ∙ e) (omega (arith, b, long))
    where
      further : (k : ℕ) → cmp y (get_or xs at x) ≡ Less → get_or xs (at + k) x ≡ x → at + k < length xs → cmp y x ≡ Less
      further zero less here within = subst (λ z. cmp y z ≡ Less) here (subst (λ n. cmp y (get_or xs n x) ≡ Less) (omega arith) less)
      further (suc k) less here within = subst (λ z. cmp y z ≡ Less) here (total.trans y (get_or xs at x) (get_or xs (at + suc k) x) less (earlier_below cmp total exact alike xs s at (at + suc k) x (omega arith) within))

  -- a row put among sorted rows, where those before its place are below it and those behind are above it
  put_sorted : (xs : List A) (y : A) (at : ℕ) → IsStrictlySortedBy cmp xs → AllByRecursion (λ x. cmp x y ≡ Less) (take at xs) → ((x : A) → Contains (drop at xs) x → cmp y x ≡ Less) → IsStrictlySortedBy cmp (with_item at y xs)
  put_sorted xs y at s below over =
      let front = take at xs in
      let rest = drop at xs in
      let split : IsStrictlySortedBy cmp (front ++ rest) = subst (IsStrictlySortedBy cmp) (sym (take-append-drop at xs)) s in
      sorted_join cmp front (y ∷ rest) (sorted_front front rest split) (sorted_cons cmp y rest over (sorted_back front rest split)) (λ u v h k. elim (mem-cases v y rest k) [
        | inl e ↦ subst (λ z. cmp u z ≡ Less) e (member_by_recursion (λ z. cmp z y ≡ Less) front below u h)
        | inr l ↦ across front rest split u v h l
      ])

  rising_behind : (stored : List A) (x : A) (p : ℕ) (rows : List A) (places : List ℕ) → IsPlace cmp stored x p → IsStrictlySortedBy cmp (x ∷ rows) → ArePlaces cmp stored rows places → AreRising p (length stored) places
  unfolding IsStrictlySortedBy
  rising_behind stored x p [] [] is s h = is.within
  rising_behind stored x p [] (q ∷ places) is s h = absurd h
  rising_behind stored x p (y ∷ rows) [] is s h = absurd h
  rising_behind stored x p (y ∷ rows) (q ∷ places) is s h = (place_order cmp total exact alike stored x y p q is h.0 s.0.0, rising_behind stored y q rows places h.0 s.1 h.1)

  -- the places of sorted rows go up
  pub places_rising : (stored rows : List A) (places : List ℕ) → IsStrictlySortedBy cmp rows → ArePlaces cmp stored rows places → AreRising 0 (length stored) places
  places_rising stored [] [] s h = omega arith
  places_rising stored [] (q ∷ places) s h = absurd h
  places_rising stored (y ∷ rows) [] s h = absurd h
  places_rising stored (y ∷ rows) (q ∷ places) s h = (omega arith, rising_behind stored y q rows places h.0 s h.1)

  -- sorted rows that are put into sorted rows at their places: these are sorted then
  pub merged_sorted : (stored fresh : List A) (places : List ℕ) → IsStrictlySortedBy cmp stored → IsStrictlySortedBy cmp fresh → ((x : A) → Contains stored x → Contains fresh x → ⊥) → ArePlaces cmp stored fresh places → IsStrictlySortedBy cmp (with_items stored fresh places)
  unfolding IsStrictlySortedBy
  merged_sorted stored [] [] s t apart h = s
  merged_sorted stored [] (at ∷ places) s t apart h = absurd h
  merged_sorted stored (y ∷ more) [] s t apart h = absurd h
  merged_sorted stored (y ∷ more) (at ∷ places) s t apart h =
      let xs = with_items stored more places in
      let sorted = merged_sorted stored more places s t.1 (λ x m k. apart x m (mem-tail x y more k)) h.1 in
      let front : take at xs ≡ take at stored = front_stays stored more places at (rising_behind stored y at more places h.0 t h.1) in
      let apart_y : Contains stored y → ⊥ = λ m. apart y m (mem-head y more) in
      put_sorted xs y at sorted (subst (AllByRecursion (λ x. cmp x y ≡ Less)) (sym front) h.0.below)
      (λ x k. elim ((with_items-members stored more places (places-long cmp stored more places h.1) x).0 (subst (λ l. Contains l x) (take-append-drop at xs) (Contains-append_right (take at xs) (drop at xs) x k))) [
        | inl m ↦ elim (Contains-append_cases (take at stored) (drop at stored) x (subst (λ l. Contains l x) (sym (take-append-drop at stored)) m)) [
          | inl f ↦ absurd (not_self x (across (take at xs) (drop at xs) (subst (IsStrictlySortedBy cmp) (sym (take-append-drop at xs)) sorted) x x (subst (λ l. Contains l x) (sym front) f) k))
          | inr b ↦ above stored y at s h.0 apart_y x b
        ]
        | inr m ↦ member_by_recursion (λ z. cmp y z ≡ Less) more t.0 x m
      ])
    where
      not_self : (x : A) → cmp x x ≡ Less → ⊥
      not_self x e = (cc (sym e ∙ alike x))
