-- Rows that ascend by their key values: where those of one key begin.
use Rattle.std.proofs.Common.{◌≡◌, ◌<◌, ◌≤◌, ◌+◌, ℕ, zero, suc, Bool, true, false, not, ◌&&◌, cond, List, [], ◌∷◌, ◌++◌, length, take, drop, get_or, slice_get, Contains, Some, None, Bor, refl, sym, ap, ◌∙◌, subst, arith, true≢false}
use native.Mathlib.Decide.{dec_lt}
use Rattle.std.specs.List.{filter, AllWithin}
use Rattle.std.specs.List.Sorted.{IsStrictlySortedBy, IsPartitionedBy, IsPartitionPoint, IsSortedBy, IsStableBy}
use Rattle.std.specs.Cmp.{IsStrictWeakOrder}
use Rattle.std.specs.Ordering.{is_lt, is_eq, ordering_reverse, ordering_then}
use Rattle.std.specs.declared.cmp.Ordering.{Ordering}
use Rattle.std.specs.declared.cmp.Ordering.TheVariants.{Less, Equal, Greater}
use Rattle.std.proofs.lemmas.List.{get_or-take, length-take-le, take-append-drop, drop_more, get_or_default}
use Rattle.std.proofs.lemmas.List.Elements.{filter-append}
use Rattle.std.proofs.lemmas.List.Sorted.{ranks_by, sorted_far}
use Rattle.std.proofs.lemmas.Option.{slice_get-get_or, slice_get_within, get_or_from_slice_get}
use Rattle.std.proofs.lemmas.Map.Keys.{Less-from_sorted}
use Rattle.cqa_value.specs.declared.value.Value.{Value}
use Rattle.cqa_value.specs.Values.{row_cmp, row_cmp_total, row_ties}
use Rattle.cqa_model.specs.Database.{key_of, block_cmp}
use Rattle.table_changes.specs.Taken.{shown, AscendByKey, first_sharing}
use Rattle.table_blocks.specs.Keys.{same_key}
use Rattle.table_changes.proofs.FirstSharing.{none_passes, second_of_two}
use Rattle.table_blocks.proofs.Sharing.{same_self}

pub get_or-shown : {A : Type 0} (xs : List (Bor A)) (k : ℕ) (d : Bor A) → get_or (shown xs) k d.now ≡ (get_or xs k d).now
get_or-shown [] k d = refl
get_or-shown (x ∷ xs) zero d = refl
get_or-shown (x ∷ xs) (suc k) d = get_or-shown xs k d

pub length-shown : {A : Type 0} (xs : List (Bor A)) → length (shown xs) ≡ length xs
length-shown [] = refl
length-shown (x ∷ xs) = ap suc (length-shown xs)

filter-shown : {A : Type 0} (p : A → Bool) (xs : List (Bor A)) → shown (filter (λ x. p x.now) xs) ≡ filter p (shown xs)
filter-shown p [] = refl
filter-shown {A} p (x ∷ xs) = go (p x.now) (filter-shown p xs)
  where
    go : (b : Bool) → shown (filter (λ x. p x.now) xs) ≡ filter p (shown xs) → shown (cond b (x ∷ filter (λ x. p x.now) xs) (filter (λ x. p x.now) xs)) ≡ cond b (x.now ∷ filter p (shown xs)) (filter p (shown xs))
    go true more = ap (λ l. x.now ∷ l) more
    go false more = more

abbrev pub a_reference : {A : Type 0} → A → Bor A
a_reference x = record { ref_ptr = (0, 0); now = x }

module _ (key : List ℕ) where
  abbrev pub below : List Value → List Value → Bool
  below x y = is_lt (row_cmp (key_of key x) (key_of key y))

  pub weak : IsStrictWeakOrder below
  weak = ranks_by row_cmp_total (key_of key)

  -- neither row is below the other where they share a key
  neither : (o : Ordering) → not (is_lt o) && not (is_lt (ordering_reverse o)) ≡ is_eq o
  neither Less = refl
  neither Equal = refl
  neither Greater = refl

  pub ties_same : (x y : List Value) → not (below x y) && not (below y x) ≡ same_key key x y
  ties_same x y =
      ap (λ o. not (is_lt (row_cmp (key_of key x) (key_of key y))) && not (is_lt o)) (row_cmp_total.antisymm (key_of key y) (key_of key x))
      ∙ neither (row_cmp (key_of key x) (key_of key y)) ∙ sym (row_ties (key_of key x) (key_of key y))

  not_below_self : (x : List Value) → below x x ≡ true → ⊥
  not_below_self x e = true≢false (sym e ∙ weak.one_way x x e)

  apart : (x y : List Value) → below x y ≡ true → same_key key y x ≡ true → ⊥
  apart x y less same = true≢false (sym same ∙ sym (ties_same y x) ∙ ap (λ b. not (below y x) && not b) less ∙ last (not (below y x)))
    where
      last : (b : Bool) → b && false ≡ false
      last true = refl
      last false = refl

  alike : (x y : List Value) → below x y ≡ false → below y x ≡ false → same_key key x y ≡ true
  alike x y a b = sym (ties_same x y) ∙ (λ i. not (a i) && not (b i))

  -- rows that ascend, and a place before which all are below a row, and from which on none is
  module _ (rows : List (List Value)) (row : List Value) (at : ℕ) (up : AscendByKey key rows) (front : AllWithin (λ x. below x row ≡ true) rows 0 at) (back : AllWithin (λ x. below x row ≡ false) rows at (length rows)) (within : at ≤ length rows) where
    -- one that shares the row's key stands there, if any does
    shares_there : (i : ℕ) (d : List Value) → i < length rows → same_key key row (get_or rows i d) ≡ true → (at ≤ i) × (same_key key row (get_or rows at d) ≡ true)
    shares_there i d l s = go (dec_lt i at)
      where
        x : List Value
        x = get_or rows i d

        f : List Value
        f = get_or rows at d

        go : Dec (i < at) → (at ≤ i) × (same_key key row f ≡ true)
        go (yes b) = absurd (apart x row (front i d (omega arith) b) s)
        go (no n) =
            let order : at ≤ i = omega (arith, n) in
            let first : below x f ≡ false = sorted_far below weak rows up at i d order l in
            let rowx : below row x ≡ false = tied row x s in
            (order, alike row f (weak.chain row x f rowx first) (back at d (omega arith) (omega (arith, order, l))))
          where
            tied : (a b : List Value) → same_key key a b ≡ true → below a b ≡ false
            tied a b s = tells (below a b) refl
              where
                tells : (t : Bool) → below a b ≡ t → below a b ≡ false
                tells true e = absurd (true≢false (sym s ∙ sym (ties_same a b) ∙ ap (λ t. not t && not (below b a)) e))
                tells false e = e

    pub found_there : (f : List Value) → at < length rows → f ≡ get_or rows at f → same_key key row f ≡ true → first_sharing key rows row ≡ Some f
    found_there f inside is s =
        let p = same_key key row in
        let none : slice_get (filter p (take at rows)) 0 ≡ None = none_passes p (take at rows) early in
        ap (λ l. slice_get (filter p l) 0) (sym (take-append-drop at rows) ∙ ap (λ l. take at rows ++ l) (drop_more rows at f inside ∙ ap (λ x. x ∷ drop (at + 1) rows) (sym is)))
        ∙ ap (λ l. slice_get l 0) (filter-append p (take at rows) (f ∷ drop (at + 1) rows))
        ∙ second_of_two (filter p (take at rows)) (filter p (f ∷ drop (at + 1) rows)) none
        ∙ ap (λ b. slice_get (cond b (f ∷ filter p (drop (at + 1) rows)) (filter p (drop (at + 1) rows))) 0) s
      where
        early : (x : List Value) → Contains (take at rows) x → same_key key row x ≡ true → ⊥
        early x (k, b, e) q =
            let short = length-take-le at rows within in
            apart x row (subst (λ y. below y row ≡ true) (sym (get_or-take at rows k x (omega (arith, b, short))) ∙ e) (front k x (omega arith) (omega (arith, b, short)))) q

    -- where the row itself is among them
    pub given_there : Contains rows row → (at < length rows) × (same_key key row (get_or rows at row) ≡ true)
    given_there (i, b, e) = let h = shares_there i row b (ap (same_key key row) e ∙ same_self key row) in let order = h.0 in (omega (arith, order, b), h.1)

    pub none_there : ((f : List Value) → slice_get rows at ≡ Some f → same_key key row f ≡ true → ⊥) → first_sharing key rows row ≡ None
    none_there other = none_passes (same_key key row) rows (λ x m s.
        let i = m.0 in
        let l = m.1 in
        let h = shares_there i x l (ap (same_key key row) m.2 ∙ s) in
        let order = h.0 in
        other (get_or rows at x) (slice_get-get_or rows at x (omega (arith, order, l))) h.1)

-- rows in block order ascend by their key values
pub ascend : (key : List ℕ) (rows : List (List Value)) → IsStrictlySortedBy (block_cmp key) rows → AscendByKey key rows
ascend key rows s k d low high = go (row_cmp (key_of key x) (key_of key y)) refl
  where
    x : List Value
    x = get_or rows k d

    y : List Value
    y = get_or rows (k + 1) d

    go : (o : Ordering) → row_cmp (key_of key x) (key_of key y) ≡ o → below key y x ≡ false
    go Less e = ap is_lt (row_cmp_total.antisymm (key_of key y) (key_of key x) ∙ ap ordering_reverse e)
    go Equal e = ap is_lt (row_cmp_total.antisymm (key_of key y) (key_of key x) ∙ ap ordering_reverse e)
    go Greater e = absurd (clash (sym (ap (λ o. ordering_then o (row_cmp x y)) e) ∙ Less-from_sorted (block_cmp key) rows k (k + 1) d s (omega arith) high))
      where
        clash : Greater ≡ Less → ⊥
        clash e = (cc)

-- references by the key values of their rows: a test of the rows parts them
module _ (key : List ℕ) (references : List (Bor (List Value))) (row : List Value) (up : AscendByKey key (shown references)) where
  pub references_parted : IsPartitionedBy (λ r. below key r.now row) references
  references_parted i j d order l e =
      let w = weak key in
      let long = length-shown references in
      let far : below key (get_or references j d).now (get_or references i d).now ≡ false =
      subst (λ y. below key (get_or references j d).now y ≡ false) (get_or-shown references i d) (subst (λ y. below key y (get_or (shown references) i d.now) ≡ false) (get_or-shown references j d) (sorted_far (below key) w (shown references) up i j d.now order (omega (arith, l, long)))) in
      go (below key (get_or references i d).now row) refl far
    where
      go : (b : Bool) → below key (get_or references i d).now row ≡ b → below key (get_or references j d).now (get_or references i d).now ≡ false → below key (get_or references i d).now row ≡ true
      go true q far = q
      go false q far = absurd (true≢false (sym e ∙ (weak key).chain (get_or references j d).now (get_or references i d).now row far q))

  shown_point : (at : ℕ) (b : Bool) (low high : ℕ) → AllWithin (λ r. below key r.now row ≡ b) references low high → AllWithin (λ x. below key x row ≡ b) (shown references) low high
  shown_point at b low high h k d l m = subst (λ y. below key y row ≡ b) (sym (get_or-shown references k (a_reference d))) (h k (a_reference d) l m)

  -- the first row that shares the row's key stands where the rows below it end
  pub first_shown : (at : ℕ) → at ≤ length references → IsPartitionPoint (λ r. below key r.now row ≡ true) (λ r. below key r.now row ≡ false) references at → Contains (shown references) row
      → (at < length references) × ((r : Bor (List Value)) → r ≡ get_or references at r → first_sharing key (shown references) row ≡ Some r.now)
  first_shown at bound point m =
      let long = length-shown references in
      let within : at ≤ length (shown references) = omega (arith, bound, long) in
      let front = shown_point at true 0 at point.0 in
      let back = subst (λ n. AllWithin (λ x. below key x row ≡ false) (shown references) at n) (sym long) (shown_point at false at (length references) point.1) in
      let h = given_there key (shown references) row at up front back within m in
      let inside = h.0 in (
        omega (arith, inside, long),
        λ r is. (let same : r.now ≡ get_or (shown references) at r.now = sym (get_or-shown references at r ∙ ap (λ z. z.now) (sym is)) in
            found_there key (shown references) row at up front back within r.now inside same
            (subst (λ x. same_key key row x ≡ true) (get_or_default (shown references) at row r.now inside ∙ sym same) h.1)),
      )

-- a stable sort of references keeps the order of rows that share a key
module _ (key : List ℕ) where
  pub shown_ascend : (references : List (Bor (List Value))) → IsSortedBy (λ (a : Bor (List Value)) b. below key a.now b.now) references → AscendByKey key (shown references)
  shown_ascend references up k d low high =
      let r = a_reference d in
      let long = length-shown references in
      subst (λ y. below key y (get_or (shown references) k d) ≡ false) (sym (get_or-shown references (k + 1) r))
      (subst (λ y. below key (get_or references (k + 1) r).now y ≡ false) (sym (get_or-shown references k r)) (up k r low (omega (arith, high, long))))

  pub shown_stable : (before after : List (Bor (List Value))) → IsStableBy (λ (a : Bor (List Value)) b. below key a.now b.now) before after
      → (row : List Value) → filter (same_key key row) (shown after) ≡ filter (same_key key row) (shown before)
  shown_stable before after stable row =
      sym (filter-shown (same_key key row) after) ∙ ap (λ p. shown (filter p after)) (sym test) ∙ ap shown (stable (a_reference row)) ∙ ap (λ p. shown (filter p before)) test ∙ filter-shown (same_key key row) before
    where
      test : ◌≡◌ {A = Bor (List Value) → Bool} (λ r. not (below key row r.now) && not (below key r.now row)) (λ r. same_key key row r.now)
      test i r = ties_same key row r.now i

-- the rows below a row stand in front
pub rows_parted : (key : List ℕ) (rows : List (List Value)) (row : List Value) → AscendByKey key rows → IsPartitionedBy (λ x. below key x row) rows
rows_parted key rows row up i j d order l e = go (below key (get_or rows i d) row) refl
  where
    go : (b : Bool) → below key (get_or rows i d) row ≡ b → below key (get_or rows i d) row ≡ true
    go true q = q
    go false q = absurd (true≢false (sym e ∙ (weak key).chain (get_or rows j d) (get_or rows i d) row (sorted_far (below key) (weak key) rows up i j d order l) q))

-- the first row that shares a row's key, where the rows below it end
module _ (key : List ℕ) (rows : List (List Value)) (row : List Value) (at : ℕ) (s : IsStrictlySortedBy (block_cmp key) rows) (bound : at ≤ length rows) (point : IsPartitionPoint (λ x. below key x row ≡ true) (λ x. below key x row ≡ false) rows at) where
  pub stored_found : (f : List Value) → slice_get rows at ≡ Some f → same_key key row f ≡ true → first_sharing key rows row ≡ Some f
  stored_found f got same = found_there key rows row at (ascend key rows s) point.0 point.1 bound f (slice_get_within rows at f got) (sym (get_or_from_slice_get rows at f f got)) same

  pub stored_none : ((f : List Value) → slice_get rows at ≡ Some f → same_key key row f ≡ true → ⊥) → first_sharing key rows row ≡ None
  stored_none other = none_there key rows row at (ascend key rows s) point.0 point.1 bound other
