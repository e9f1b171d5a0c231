-- Items that are put in at places that rise, and taken out again.
use Rattle.std.proofs.Common.{◌≡◌, ℕ, Option, Some, None, true, zero, suc, ◌+◌, ◌-◌, ◌<◌, ◌≤◌, List, [], ◌∷◌, ◌++◌, length, take, drop, get_or, set, refl, sym, ap, ◌∙◌, arith}
use Rattle.std.specs.List.{remove}
use Rattle.std.specs.Option.{SomeIff, is_some}
use Rattle.std.specs.Result.{OnOk, OnErr}
use Rattle.std.specs.declared.result.Result.{Result}
use Rattle.std.specs.declared.result.Result.TheVariants.{Ok, Err}
use Rattle.std.proofs.lemmas.List.{append-nil, append_assoc, length-drop, length-take-le, drop_more, take-append-drop, take_at, drop_at}
use Rattle.std.proofs.lemmas.List.Edits.{length-insert, remove-append_left, remove-append_right}
use Rattle.row_pieces.specs.declared.piece.Piece.{Piece}
use Rattle.row_pieces.specs.Inserted.{with_item, with_items, AreRising}
use Rattle.row_pieces.specs.Joined.{joined, HasPlacesTo}
use Rattle.row_pieces.proofs.Joining.{drop_past, joined_at, joined_set}

-- ---- places that rise

pub rising_low : (from to : ℕ) (places : List ℕ) → AreRising from to places → from ≤ to
rising_low from to [] r = r
rising_low from to (at ∷ places) r =
    let a = r.0 in
    let b = rising_low at to places r.1 in
    omega (arith, a, b)

pub rising_zero : (from to : ℕ) (places : List ℕ) → AreRising from to places → AreRising 0 to places
rising_zero from to [] r = omega arith
rising_zero from to (at ∷ places) r = (omega arith, r.1)

pub rising_drop : (from to : ℕ) (places : List ℕ) (i : ℕ) → AreRising from to places → AreRising 0 to (drop i places)
rising_drop from to places zero r = rising_zero from to places r
rising_drop from to [] (suc i) r = omega arith
rising_drop from to (at ∷ places) (suc i) r = rising_drop at to places i r.1

pub rising_most : (from to : ℕ) (places : List ℕ) (k : ℕ) (d : ℕ) → AreRising from to places → k < length places → (from ≤ get_or places k d) × (get_or places k d ≤ to)
rising_most from to [] k d r l = absurd (omega (arith, l))
rising_most from to (at ∷ places) zero d r l = (r.0, rising_low at to places r.1)
rising_most from to (at ∷ places) (suc k) d r l =
    let a = r.0 in
    let b = rising_most at to places k d r.1 (omega (arith, l)) in
    let c = b.0 in
    (omega (arith, a, c), b.1)

pub rising_order : (from to : ℕ) (places : List ℕ) (k j : ℕ) (d : ℕ) → AreRising from to places → k ≤ j → j < length places → get_or places k d ≤ get_or places j d
rising_order from to [] k j d r a l = absurd (omega (arith, l))
rising_order from to (at ∷ places) zero zero d r a l = omega arith
rising_order from to (at ∷ places) zero (suc j) d r a l = (rising_most at to places j d r.1 (omega (arith, l))).0
rising_order from to (at ∷ places) (suc k) zero d r a l = absurd (omega (arith, a))
rising_order from to (at ∷ places) (suc k) (suc j) d r a l = rising_order at to places k j d r.1 (omega (arith, a)) (omega (arith, l))

-- ---- items that are put in

pub length-with_items : {A : Type 0} (items rows : List A) (places : List ℕ) (from : ℕ) → length rows ≡ length places → AreRising from (length items) places → length (with_items items rows places) ≡ length items + length rows
length-with_items items [] places from e r = omega arith
length-with_items items (row ∷ rows) [] from e r = absurd (omega (arith, e))
length-with_items items (row ∷ rows) (at ∷ places) from e r =
    let i = length-with_items items rows places at (omega (arith, e)) r.1 in
    let low = rising_low at (length items) places r.1 in
    let one = length-insert (with_items items rows places) at row (omega (arith, i, low)) in
    omega (arith, one, i)

-- an item that was put in is taken out again
pub put_back : {A : Type 0} (at : ℕ) (item : A) (items : List A) → at ≤ length items → take at (with_item at item items) ++ drop (at + 1) (with_item at item items) ≡ items
put_back at item items l =
    let long = length-take-le at items l in
    ap (λ xs. xs ++ drop (at + 1) (with_item at item items)) (take_at (take at items) (item ∷ drop at items) at long)
    ∙ ap (λ xs. take at items ++ xs) (drop_past (take at items) (item ∷ drop at items) 1 (at + 1) (omega (arith, long)))
    ∙ take-append-drop at items

-- items that go behind all others
pub appended : {A : Type 0} (items rows : List A) (places : List ℕ) (from : ℕ) → length rows ≡ length places → length items ≤ from → AreRising from (length items) places → with_items items rows places ≡ items ++ rows
appended items [] places from e l r = sym (append-nil items)
appended items (row ∷ rows) [] from e l r = absurd (omega (arith, e))
appended items (row ∷ rows) (at ∷ places) from e l r =
    let a = r.0 in
    let low = rising_low at (length items) places r.1 in
    let at_end : at ≡ length items = omega (arith, a, low, l) in
    ap (λ xs. with_item at row xs) (appended items rows places at (omega (arith, e)) (omega (arith, a, l)) r.1)
    ∙ ap (λ xs. xs ++ row ∷ drop at (items ++ rows)) (take_at items rows at (sym at_end))
    ∙ ap (λ xs. items ++ row ∷ xs) (drop_at items rows at (sym at_end))

-- ---- the last of some items

pub last_drop : {A : Type 0} (all before : List A) (item : A) (count : ℕ) → before ++ item ∷ [] ≡ take count all → count ≡ length before + 1 → (drop (length before) all ≡ item ∷ drop count all) × (before ≡ take (length before) all)
last_drop all before item count e n =
    let whole : all ≡ before ++ item ∷ drop count all = sym (take-append-drop count all) ∙ ap (λ xs. xs ++ drop count all) (sym e) ∙ append_assoc before (item ∷ []) (drop count all) in
    (ap (drop (length before)) whole ∙ drop_at before (item ∷ drop count all) (length before) refl, sym (ap (take (length before)) whole ∙ take_at before (item ∷ drop count all) (length before) refl))

-- ---- a row that is taken out of a piece

pub joined_remove : (ps : List Piece) (at place left : ℕ) (there : at < length ps) (p q : Piece) → p ≡ get_or ps at p → place ≡ length (joined (take at ps)) + left → left < length p.rows → q.rows ≡ remove p.rows left
    → joined (set ps at q) ≡ take place (joined ps) ++ drop (place + 1) (joined ps)
joined_remove ps at place left there p q is e inside rows =
    let before = joined (take at ps) in
    let behind = joined (drop (at + 1) ps) in
    let far : place - length before ≡ left = omega (arith, e) in
    let one : suc place ≡ place + 1 = omega arith in
    joined_set ps at q there
    ∙ ap (λ xs. before ++ (xs ++ behind)) rows
    ∙ ap (λ xs. before ++ xs) (sym (remove-append_left p.rows behind left inside))
    ∙ ap (λ n. before ++ remove (p.rows ++ behind) n) (sym far)
    ∙ sym (remove-append_right before (p.rows ++ behind) (length before) place refl (omega (arith, e)))
    ∙ ap (λ xs. remove xs place) (sym (joined_at ps at p there ∙ ap (λ z. before ++ (z.rows ++ behind)) (sym is)))
    ∙ ap (λ n. take place (joined ps) ++ drop n (joined ps)) one

pub open_lower : (ps : List Piece) (end place lower : ℕ) → lower ≤ place → HasPlacesTo ps end place → HasPlacesTo ps end lower
open_lower ps end place lower l o = let there = o.there in record { some = o.some; within = o.within; numbered = o.numbered; there = omega (arith, l, there) }

some_item : {A : Type 0} (xs : List A) → 0 < length xs → A
some_item [] l = absurd (omega (arith, l))
some_item (x ∷ xs) l = x

-- the row that was put in at the last place of those that are left stands there, and without it the others are left
module _ {A : Type 0} (items rows : List A) (places : List ℕ) (i : ℕ) (each : length rows ≡ length places) (rising : AreRising 0 (length items) places) (there : i < length places) where
  abbrev pub others : List A
  others = with_items items (drop (i + 1) rows) (drop (i + 1) places)

  with_one : (d : A) → with_items items (drop i rows) (drop i places) ≡ with_item (get_or places i 0) (get_or rows i d) others
  with_one d = ap (λ xs. with_items items xs (drop i places)) (drop_more rows i d (omega (arith, there, each))) ∙ ap (λ ps. with_items items (get_or rows i d ∷ drop (i + 1) rows) ps) (drop_more places i 0 there)

  within : get_or places i 0 ≤ length others
  within =
      let most = (rising_most 0 (length items) places i 0 rising there).1 in
      let a = length-drop (i + 1) rows in
      let b = length-drop (i + 1) places in
      let long = length-with_items items (drop (i + 1) rows) (drop (i + 1) places) 0 (omega (arith, a, b, each)) (rising_drop 0 (length items) places (i + 1) rising) in
      omega (arith, most, long)

  pub back_one : (xs : List A) → xs ≡ with_items items (drop i rows) (drop i places) → (get_or places i 0 < length xs) × (take (get_or places i 0) xs ++ drop (get_or places i 0 + 1) xs ≡ others)
  back_one xs e =
      let d = some_item rows (omega (arith, there, each)) in
      let is = e ∙ with_one d in
      let one = length-insert others (get_or places i 0) (get_or rows i d) within in
      let same = ap length is in
      let fits = within in
      (omega (arith, same, one, fits), ap (λ ys. take (get_or places i 0) ys ++ drop (get_or places i 0 + 1) ys) is ∙ put_back (get_or places i 0) (get_or rows i d) others within)

pub rising_end : (to : ℕ) (places : List ℕ) → AreRising 0 to places → 0 < length places → to ≤ get_or places 0 0 → AreRising to to places
rising_end to [] r l e = absurd (omega (arith, l))
rising_end to (at ∷ places) r l e = (e, r.1)

-- either outcome has few items
pub few_either : {A T E : Type 0} (r : Result T E) (new ok err : List A) (most : ℕ) → OnOk r (new ≡ ok) → OnErr r (new ≡ err) → length ok < most → length err < most → length new < most
few_either (Ok x) new ok err most e f a b = let same = ap length e in omega (arith, same, a)
few_either (Err x) new ok err most e f a b = let same = ap length f in omega (arith, same, b)

pub at_some : {T : Type 0} (r : Option T) (P : Type 0) (v : T) → SomeIff r P v → is_some r ≡ true → P
at_some (Some x) P v h e = h.0
at_some None P v h e = cc
