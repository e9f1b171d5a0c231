-- Rows in block order are parted by a probe.
use Rattle.std.proofs.Common.{◌≡◌, ◌+◌, ◌<◌, ◌≤◌, ℕ, suc, zero, length, List, [], ◌∷◌, ◌++◌, Bool, true, false, refl, sym, ◌∙◌, ap, subst, arith, take, drop, get_or, true≢false, slice_get, Some, not, length-append}
use Rattle.std.specs.List.{AllByRecursion}
use Rattle.std.specs.List.Sorted.{IsStrictlySortedBy, IsPartitionedBy, IsPartitionPoint}
use Rattle.std.specs.Ordering.{ordering_then}
use Rattle.std.specs.declared.cmp.Ordering.{Ordering}
use Rattle.std.specs.declared.cmp.Ordering.TheVariants.{Less, Equal, Greater}
use Rattle.std.proofs.lemmas.List.{get_or-take, get_or-drop, length-take-le, length-drop, take-append-drop, drop_more}
use Rattle.std.proofs.lemmas.Option.{get_or_from_slice_get}
use Rattle.std.proofs.lemmas.List.Elements.{All-from_get_or}
use Rattle.std.proofs.lemmas.Map.Keys.{Less-from_sorted}
use native.Mathlib.Decide.{dec_lt}
use Rattle.cqa_value.specs.declared.value.Value.{Value}
use Rattle.cqa_value.specs.Values.{value_cmp, row_cmp, row_cmp_total}
use Rattle.cqa_model.specs.Database.{nothing, key_of, block_cmp}
use Rattle.cqa_model.proofs.BlockOrder.{row_exact}
use Rattle.row_order.proofs.BlockOrder.{block_total, block_exact, block_alike, row_alike}
use Rattle.table_blocks.proofs.Merging.{sorted_back}
use Rattle.row_order.specs.Spans.{first_key, probe_cmp, comes_before, IsSpan}

-- two rows with one not above the other: nor are their first values
abbrev IsBelow : Ordering → Type 0
IsBelow o = o ≡ Greater → ⊥

apart : Less ≡ Greater → ⊥
apart e = (cc)

first_below : (n : ℕ) (xs ys : List Value) → IsBelow (row_cmp xs ys) → IsBelow (row_cmp (take n xs) (take n ys))
first_below zero xs ys h e = (cc)
first_below (suc n) [] [] h e = (cc)
first_below (suc n) [] (y ∷ ys) h e = (cc)
first_below (suc n) (x ∷ xs) [] h e = h refl
first_below (suc n) (x ∷ xs) (y ∷ ys) h e = go (value_cmp x y) h (first_below n xs ys) e
  where
    go : (o : Ordering) → IsBelow (ordering_then o (row_cmp xs ys)) → (IsBelow (row_cmp xs ys) → IsBelow (row_cmp (take n xs) (take n ys))) → IsBelow (ordering_then o (row_cmp (take n xs) (take n ys)))
    go Less h others e = (cc)
    go Equal h others e = others h e
    go Greater h others e = h refl

take_key : (n : ℕ) (key : List ℕ) (row : List Value) → key_of (take n key) row ≡ take n (key_of key row)
take_key zero key row = refl
take_key (suc n) [] row = refl
take_key (suc n) (p ∷ key) row = ap (λ vs. get_or row p nothing ∷ vs) (take_key n key row)

then_below : (o p : Ordering) → ordering_then o p ≡ Less → IsBelow o
then_below Less p e f = (cc)
then_below Equal p e f = (cc)
then_below Greater p e f = (cc (sym e))

-- what comes before something that comes before does so too
below_too : (ties : Bool) (a b p : List Value) → IsBelow (row_cmp a b) → comes_before ties (row_cmp b p) ≡ true → comes_before ties (row_cmp a p) ≡ true
below_too ties a b p h t = go (row_cmp a b) refl (row_cmp b p) refl
  where
    go : (o : Ordering) → row_cmp a b ≡ o → (q : Ordering) → row_cmp b p ≡ q → comes_before ties (row_cmp a p) ≡ true
    go Greater e q f = absurd (h e)
    go Equal e q f = ap (comes_before ties) (row_cmp_total.congr a b p e) ∙ t
    go Less e Less f = ap (comes_before ties) (row_cmp_total.trans a b p e f)
    go Less e Equal f = subst (λ q. comes_before ties (row_cmp a q) ≡ true) (row_exact b p f) (ap (comes_before ties) e)
    go Less e Greater f = absurd (true≢false (sym t ∙ ap (comes_before ties) f))

module _ (key : List ℕ) (rows : List (List Value)) (probe : List Value) (sorted : IsStrictlySortedBy (block_cmp key) rows) where
  pub parted : (ties : Bool) → IsPartitionedBy (λ row. comes_before ties (probe_cmp key probe row)) rows
  parted ties i j d a b t = go (dec_lt i j)
    where
      go : Dec (i < j) → comes_before ties (probe_cmp key probe (get_or rows i d)) ≡ true
      go (yes l) =
          let x = get_or rows i d in
          let y = get_or rows j d in
          let below = then_below (row_cmp (key_of key x) (key_of key y)) (row_cmp x y) (Less-from_sorted (block_cmp key) rows i j d sorted l b) in
          let first : IsBelow (row_cmp (first_key key probe x) (first_key key probe y)) =
          rw (take_key (length probe) key x, take_key (length probe) key y) (first_below (length probe) (key_of key x) (key_of key y) below) in
          below_too ties (first_key key probe x) (first_key key probe y) probe first t
      go (no n) = let same : j ≡ i = omega (arith, n, a) in subst (λ k. comes_before ties (probe_cmp key probe (get_or rows k d)) ≡ true) same t

between : (o : Ordering) → comes_before false o ≡ false → comes_before true o ≡ true → o ≡ Equal
between Less e f = (cc)
between Equal e f = refl
between Greater e f = (cc)

before_apart : (o : Ordering) → comes_before false o ≡ true → o ≡ Equal → ⊥
before_apart Less e f = (cc)
before_apart Equal e f = (cc)
before_apart Greater e f = (cc)

behind_apart : (o : Ordering) → comes_before true o ≡ false → o ≡ Equal → ⊥
behind_apart Less e f = (cc)
behind_apart Equal e f = (cc)
behind_apart Greater e f = (cc)

-- two such places bound a span
pub span-is : (key : List ℕ) (rows : List (List Value)) (probe : List Value) (start count : ℕ) → start ≤ length rows → count ≤ length (drop start rows) →
    IsPartitionPoint (λ row. comes_before false (probe_cmp key probe row) ≡ true) (λ row. comes_before false (probe_cmp key probe row) ≡ false) rows start →
    IsPartitionPoint (λ row. comes_before true (probe_cmp key probe row) ≡ true) (λ row. comes_before true (probe_cmp key probe row) ≡ false) (drop start rows) count →
    IsSpan key rows probe start (take count (drop start rows))
span-is key rows probe start count within inside first second =
    let rest = drop start rows in
    let size = length-take-le start rows within in
    let long = length-drop start rows in
    record {
      before = take start rows;
      behind = drop count rest;
      place = size;
      parts = sym (ap (λ xs. take start rows ++ xs) (take-append-drop count rest) ∙ take-append-drop start rows);
      these = All-from_get_or (λ row. first_key key probe row ≡ probe) (take count rest) [] (λ i l.
          let short = length-take-le count rest inside in
          let k : i < count = omega (arith, l, short) in
          let y = get_or rest i [] in
          let there : start + i < length rows = omega (arith, k, inside, long) in
          let low : comes_before false (probe_cmp key probe y) ≡ false = subst (λ x. comes_before false (probe_cmp key probe x) ≡ false) (sym (get_or-drop start rows i [])) (first.1 (start + i) [] (omega arith) there) in
          let high : comes_before true (probe_cmp key probe y) ≡ true = second.0 i [] (omega arith) k in
          rw (get_or-take count rest i [] k) (row_exact (first_key key probe y) probe (between (probe_cmp key probe y) low high)));
      none_before = All-from_get_or (λ row. first_key key probe row ≡ probe → ⊥) (take start rows) [] (λ i l e.
          let k : i < start = omega (arith, l, size) in
          let y = get_or rows i [] in
          let same : first_key key probe y ≡ probe = subst (λ x. first_key key probe x ≡ probe) (get_or-take start rows i [] k) e in
          before_apart (probe_cmp key probe y) (first.0 i [] (omega arith) k) (ap (λ x. row_cmp x probe) same ∙ row_alike probe));
      none_behind = All-from_get_or (λ row. first_key key probe row ≡ probe → ⊥) (drop count rest) [] (λ i l e.
          let left = length-drop count rest in
          let y = get_or rest (count + i) [] in
          let same : first_key key probe y ≡ probe = subst (λ x. first_key key probe x ≡ probe) (get_or-drop count rest i []) e in
          behind_apart (probe_cmp key probe y) (second.1 (count + i) [] (omega arith) (omega (arith, l, left, inside))) (ap (λ x. row_cmp x probe) same ∙ row_alike probe));
    }

-- rows behind a place are in order too
pub sorted-drop : (key : List ℕ) (rows : List (List Value)) (n : ℕ) → IsStrictlySortedBy (block_cmp key) rows → IsStrictlySortedBy (block_cmp key) (drop n rows)
sorted-drop key rows n s = sorted_back (block_cmp key) (block_total key) (block_exact key) (block_alike key) (take n rows) (drop n rows) (subst (IsStrictlySortedBy (block_cmp key)) (sym (take-append-drop n rows)) s)

-- the next key column and the probe's next value decide, or what is behind them
pub next_pair : (key : List ℕ) (row probe : List Value) (at : ℕ) (v p : Value) → length probe ≤ length key → at < length probe → v ≡ get_or row (get_or key at 0) nothing → slice_get probe at ≡ Some p →
    row_cmp (key_of (drop at (take (length probe) key)) row) (drop at probe) ≡ ordering_then (value_cmp v p) (row_cmp (key_of (drop (at + 1) (take (length probe) key)) row) (drop (at + 1) probe))
next_pair key row probe at v p few inside is found =
    let n = length probe in
    let size = length-take-le n key few in
    let column = drop_more (take n key) at 0 (omega (arith, size, inside)) ∙ ap (λ c. c ∷ drop (at + 1) (take n key)) (get_or-take n key at 0 inside) in
    let other = drop_more probe at p inside ∙ ap (λ c. c ∷ drop (at + 1) probe) (get_or_from_slice_get probe at p p found) in
    rw (column, other, is) refl

pub span-within : (key : List ℕ) (rows : List (List Value)) (probe : List Value) (start : ℕ) (span : List (List Value)) → IsSpan key rows probe start span → start + length span ≤ length rows
span-within key rows probe start span h =
    let e = ap length h.parts in
    let l : length (h.before ++ (span ++ h.behind)) ≡ length h.before + length (span ++ h.behind) = length-append h.before (span ++ h.behind) in
    let m : length (span ++ h.behind) ≡ length span + length h.behind = length-append span h.behind in
    let p = h.place in
    omega (arith, e, l, m, p)

-- what is cut out of a list in order is in order
pub sorted-part : {A : Type 0} (cmp : A → A → Ordering) (before part behind : List A) → IsStrictlySortedBy cmp (before ++ (part ++ behind)) → IsStrictlySortedBy cmp part
unfolding IsStrictlySortedBy
sorted-part cmp [] part behind s = front part s
  where
    front-all : (P : _ → Type 0) (xs : List _) → AllByRecursion P (xs ++ behind) → AllByRecursion P xs
    front-all P [] h = tt
    front-all P (x ∷ xs) h = (h.0, front-all P xs h.1)

    front : (xs : List _) → IsStrictlySortedBy cmp (xs ++ behind) → IsStrictlySortedBy cmp xs
    front [] h = tt
    front (x ∷ xs) h = (front-all (λ y. cmp x y ≡ Less) xs h.0, front xs h.1)
sorted-part cmp (b ∷ before) part behind s = sorted-part cmp before part behind s.1

-- so is a span
pub span-sorted : (key : List ℕ) (rows : List (List Value)) (probe : List Value) (start : ℕ) (span : List (List Value)) → IsSpan key rows probe start span → IsStrictlySortedBy (block_cmp key) rows → IsStrictlySortedBy (block_cmp key) span
span-sorted key rows probe start span s h = sorted-part (block_cmp key) s.before span s.behind (subst (IsStrictlySortedBy (block_cmp key)) s.parts h)
