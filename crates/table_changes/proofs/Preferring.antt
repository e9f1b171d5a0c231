-- Which rows tests prefer, told block by block.
use Rattle.std.proofs.Common.{◌≡◌, ◌⊎◌, ◌↔◌, inl, inr, ◌||◌, ◌&&◌, not, IsTrue, ℕ, ◌+◌, ◌-◌, ◌<◌, ◌≤◌, Bool, true, false, List, [], ◌∷◌, ◌++◌, length, map, take, drop, set, get_or, replicate, Contains, refl, sym, ap, subst, ◌∙◌, arith, append_assoc, length-append, true≢false, if◌then◌else◌}
use Rattle.std.specs.List.{list_any, filter}
use Rattle.std.specs.List.Sorted.{IsStrictlySortedBy}
use Rattle.std.proofs.Math.Seq.{take-add, take-append_seam, drop-append_seam}
use Rattle.std.proofs.lemmas.List.{append-nil, drop-drop, get_or-take, get_or-drop, get_or_default, length-drop, length-map, length-take-le, map-append, take-take, take_all, take_more_set}
use Rattle.std.proofs.lemmas.List.Elements.{Contains-append_cases, Contains-append_left, Contains-append_right, Contains-get_or, recursion_from_All}
use Rattle.std.proofs.lemmas.List.Folds.{list_any_more}
use Rattle.std.proofs.lemmas.List.Kept.{IsStrictlySortedBy-filter}
use Rattle.cqa_value.specs.declared.value.Value.{Value}
use Rattle.cqa_value.proofs.Words.{mem-head, mem-tail, mem-nil, mem-cases, member_place, member_by_recursion, map_alike, cases_le, Contains-filter, Contains-from_take}
use Rattle.cqa_model.specs.Database.{SharesKey, block_cmp}
use Rattle.cqa_model.proofs.BlockOrder.{grouped, key-from_shares}
use Rattle.cqa_model.proofs.Repairs.{shares-eq, shares-sym, shares-trans}
use Rattle.row_blocks.proofs.BlockEnds.{shares-before}
use Rattle.row_order.specs.Spans.{first_key}
use Rattle.row_pieces.proofs.Marking.{map-more}
use Rattle.table_blocks.specs.Keys.{same_key}
use Rattle.table_blocks.specs.Tables.{TestsHold, IsToldStretch}
use Rattle.table_blocks.specs.declared.test.ColumnTest.{ColumnTest}
use Rattle.table_blocks.proofs.Passing.{dec_tests, is_yes, is_no}
use Rattle.table_blocks.proofs.Sharing.{same_decides}
use Rattle.table_blocks.proofs.Sparing.{spared_all}
use Rattle.table_changes.specs.Preferred.{IsPreferred, DecidesTests, stays_among, staying}

-- ---- truth values

-- two that follow from each other are the same
pub same_truth : (a b : Bool) → (IsTrue a → IsTrue b) → (IsTrue b → IsTrue a) → a ≡ b
same_truth true true f g = refl
same_truth true false f g = sym (f refl)
same_truth false true f g = g refl
same_truth false false f g = refl

pub both : (a b : Bool) → IsTrue (a && b) → IsTrue a × IsTrue b
both true b e = (refl, e)
both false b e = absurd (true≢false (sym e))

pub and_both : (a b : Bool) → IsTrue a → IsTrue b → IsTrue (a && b)
and_both true b e f = f
and_both false b e f = e

pub any_from : {A : Type 0} (p : A → Bool) (xs : List A) → IsTrue (list_any p xs) → (x : A) × Contains xs x × IsTrue (p x)
any_from p [] e = absurd (true≢false (sym e))
any_from {A} p (y ∷ ys) e = go (p y) refl (any_from p ys) e
  where
    go : (b : Bool) → p y ≡ b → (IsTrue (list_any p ys) → (x : A) × Contains ys x × IsTrue (p x)) → IsTrue (b || list_any p ys) → (x : A) × Contains (y ∷ ys) x × IsTrue (p x)
    go true q more f = (y, mem-head y ys, q)
    go false q more f = let r = more f in (r.0, mem-tail r.0 y ys r.1, r.2)

or_right : (a b : Bool) → IsTrue b → IsTrue (a || b)
or_right true b e = refl
or_right false b e = e

or_left : (a b : Bool) → IsTrue a → IsTrue (a || b)
or_left true b e = refl
or_left false b e = absurd (true≢false (sym e))

pub any_to : {A : Type 0} (p : A → Bool) (xs : List A) (x : A) → Contains xs x → IsTrue (p x) → IsTrue (list_any p xs)
any_to p [] x m e = absurd (mem-nil x m)
any_to p (y ∷ ys) x m e = elim (mem-cases x y ys m) [
  | inl s ↦ or_left (p y) (list_any p ys) (subst (λ z. IsTrue (p z)) (sym s) e)
  | inr n ↦ or_right (p y) (list_any p ys) (any_to p ys x n e)
]

or_false : (a : Bool) → a ≡ (a || false)
or_false true = refl
or_false false = refl

none_is : (a : Bool) → (IsTrue a → ⊥) → a ≡ false
none_is true h = absurd (h refl)
none_is false h = refl

-- ---- lists

-- a row stays beside some rows: it passes, or none of them passes
abbrev stays_in : (List Value → Bool) → List (List Value) → List Value → Bool
stays_in passes block row = passes row || not (list_any passes block)

-- where no row passes, each stays
pub all_stay : (passes : List Value → Bool) (all rows : List (List Value)) → list_any passes all ≡ false → replicate (length rows) true ≡ map (stays_in passes all) rows
all_stay passes all [] e = refl
all_stay passes all (row ∷ rows) e = ap (λ b. b ∷ replicate (length rows) true) (sym (or_right (passes row) (not (list_any passes all)) (ap not e))) ∙ ap (λ l. stays_in passes all row ∷ l) (all_stay passes all rows e)

-- where one does, those that pass stay
pub these_stay : (passes : List Value → Bool) (all rows : List (List Value)) → list_any passes all ≡ true → map passes rows ≡ map (stays_in passes all) rows
these_stay passes all rows e = map_alike passes (stays_in passes all) rows (λ row m. or_false (passes row) ∙ ap (λ b. passes row || not b) (sym e))

-- ---- one block after the other

-- a row shares the key of a first row just where it stands in the block
module _ (key : List ℕ) (rows : List (List Value)) (start count : ℕ) (within : start + count ≤ length rows)
    (block : (i : ℕ) → i < length rows → SharesKey key (get_or rows start []) (get_or rows i []) ↔ ((start ≤ i) × (i < start + count))) where
  abbrev first : List Value
  first = get_or rows start []

  abbrev these : List (List Value)
  these = take count (drop start rows)

  as_wide : length these ≡ count
  as_wide = let behind = length-drop start rows in length-take-le count (drop start rows) (omega (arith, within, behind))

  place-in : (i : ℕ) → i < count → get_or these i [] ≡ get_or rows (start + i) []
  place-in i early = get_or-take count (drop start rows) i [] early ∙ get_or-drop start rows i []

  in_block : (x : List Value) → Contains these x → SharesKey key first x
  in_block x m =
      let there = member_place these x [] m in
      let place = there.1 in
      let long = as_wide in
      let early : there.0 < count = omega (arith, place, long) in
      subst (SharesKey key first) (sym (place-in there.0 early) ∙ there.2) ((block (start + there.0) (omega (arith, early, within))).1 (omega arith, omega (arith, early)))

  to_block : (x : List Value) → Contains rows x → SharesKey key first x → Contains these x
  to_block x m s =
      let there = member_place rows x [] m in
      let bounds = (block there.0 there.1).0 (subst (SharesKey key first) (sym there.2) s) in
      let low = bounds.0 in
      let high = bounds.1 in
      let long = as_wide in
      let early : there.0 - start < count = omega (arith, low, high) in
      let back : start + (there.0 - start) ≡ there.0 = omega (arith, low) in
      subst (Contains these) (place-in (there.0 - start) early ∙ ap (λ n. get_or rows n []) back ∙ there.2) (Contains-get_or these (there.0 - start) [] (omega (arith, early, long)))

  in_rows : (x : List Value) → Contains these x → Contains rows x
  in_rows x m =
      let there = member_place these x [] m in
      let place = there.1 in
      let long = as_wide in
      let early : there.0 < count = omega (arith, place, long) in
      subst (Contains rows) (sym (place-in there.0 early) ∙ there.2) (Contains-get_or rows (start + there.0) [] (omega (arith, early, within)))

  -- a row of the block stays in it just as among all rows
  stays_alike : (passes : List Value → Bool) (x : List Value) → Contains these x → stays_in passes these x ≡ stays_among key passes rows x
  stays_alike passes x m = ap (λ b. passes x || not b) (same_truth _ _ to from)
    where
      to : IsTrue (list_any passes these) → IsTrue (list_any (λ other. same_key key x other && passes other) rows)
      to e =
          let r = any_from passes these e in
          let shares = shares-trans key x first r.0 (shares-sym key first x (in_block x m)) (in_block r.0 r.1) in
          any_to (λ other. same_key key x other && passes other) rows r.0 (in_rows r.0 r.1) (and_both (same_key key x r.0) (passes r.0) ((same_decides key x r.0).1 shares) r.2)

      from : IsTrue (list_any (λ other. same_key key x other && passes other) rows) → IsTrue (list_any passes these)
      from e =
          let r = any_from (λ other. same_key key x other && passes other) rows e in
          let w = both (same_key key x r.0) (passes r.0) r.2 in
          any_to passes these r.0 (to_block r.0 r.1 (shares-trans key first x r.0 (in_block x m) ((same_decides key x r.0).0 w.0))) w.1

  -- what stays of the rows of a block is told by which of them pass
  pub told-block : (passes : List Value → Bool) (flags before after : List Bool) (some : Bool) → length flags ≡ length rows →
      some ≡ list_any passes these → take (start + count) flags ≡ before ++ map passes these → length before ≡ start →
      after ≡ (if some then flags else (take start flags ++ replicate count true ++ drop (start + count) flags)) →
      take (start + count) after ≡ before ++ map (stays_among key passes rows) these
  told-block passes flags before after some long any told as_many is = go some any is
    where
      here : map (stays_in passes these) these ≡ map (stays_among key passes rows) these
      here = map_alike (stays_in passes these) (stays_among key passes rows) these (stays_alike passes)

      go : (b : Bool) → b ≡ list_any passes these → after ≡ (if b then flags else (take start flags ++ replicate count true ++ drop (start + count) flags)) → take (start + count) after ≡ before ++ map (stays_among key passes rows) these
      go true e same = ap (take (start + count)) same ∙ told ∙ ap (λ fs. before ++ fs) (these_stay passes these these (sym e) ∙ here)
      go false e same =
          let front : take start flags ≡ before =
          sym (take-take start (start + count) flags (omega arith)) ∙ ap (take start) told ∙ ap (λ n. take n (before ++ map passes these)) (sym as_many) ∙ take-append_seam before (map passes these)
          in
          let flat : take start flags ++ replicate count true ≡ before ++ map (stays_in passes these) these =
          ap (λ fs. fs ++ replicate count true) front ∙ ap (λ n. before ++ replicate n true) (sym as_wide) ∙ ap (λ fs. before ++ fs) (all_stay passes these these (sym e))
          in
          let both_long : length (before ++ map (stays_in passes these) these) ≡ start + count =
          length-append before (map (stays_in passes these) these) ∙ ap (λ n. n + length (map (stays_in passes these) these)) as_many ∙ ap (λ n. start + n) (length-map these (stays_in passes these) ∙ as_wide)
          in
          ap (take (start + count)) same
          ∙ ap (λ fs. take (start + count) (fs ++ drop (start + count) flags)) flat
          ∙ ap (λ n. take n ((before ++ map (stays_in passes these) these) ++ drop (start + count) flags)) (sym both_long)
          ∙ take-append_seam (before ++ map (stays_in passes these) these) (drop (start + count) flags)
          ∙ ap (λ fs. before ++ fs) here

-- it is told of the rows of earlier blocks whether they stay, and of so many of the block that is being read whether they pass
pub record AreToldSoFar (key : List ℕ) (rows : List (List Value)) (tests : List ColumnTest) (stays : List Bool) (start read : ℕ) (some : Bool) : Type 0 where
  pub within : start + read ≤ length rows
  pub before : (i : ℕ) → i < start → SharesKey key (get_or rows start []) (get_or rows i []) → ⊥
  pub alike : (i : ℕ) → start ≤ i → i < start + read → SharesKey key (get_or rows start []) (get_or rows i [])
  pub told : (passes : List Value → Bool) → DecidesTests tests passes → take (start + read) stays ≡ map (stays_among key passes rows) (take start rows) ++ map passes (take read (drop start rows))
  pub some_is : (passes : List Value → Bool) → DecidesTests tests passes → some ≡ list_any passes (take read (drop start rows))

module _ (key : List ℕ) (rows : List (List Value)) (tests : List ColumnTest) where
  -- of no row it is told
  told-none : (stays : List Bool) (some : Bool) → some ≡ false → AreToldSoFar key rows tests stays 0 0 some
  told-none stays some e = record {
    within = omega arith;
    before = λ i l. absurd (omega (arith, l));
    alike = λ i l h. absurd (omega (arith, h));
    told = λ passes k. refl;
    some_is = λ passes k. e;
  }

  -- no block was read
  pub told-first : (stays : List Bool) (start read : ℕ) (some : Bool) → start ≡ 0 → read ≡ 0 → some ≡ false → AreToldSoFar key rows tests stays start read some
  told-first stays start read some s r e =
      subst (λ n. AreToldSoFar key rows tests stays n read some) (sym s) (subst (λ n. AreToldSoFar key rows tests stays 0 n some) (sym r) (told-none stays some e))

  module _ (stays : List Bool) (start read : ℕ) (some : Bool) (far : AreToldSoFar key rows tests stays start read some) (long : length stays ≡ length rows) where
    rest_long : length (drop start rows) + start ≡ length rows
    rest_long = let behind = length-drop start rows in let within = far.within in omega (arith, behind, within)

    module _ (row : List Value) (there : start + read < length rows) (is : get_or rows (start + read) [] ≡ row) where
      abbrev at : ℕ
      at = start + read

      inside : read < length (drop start rows)
      inside = let behind = rest_long in omega (arith, behind, there)

      is_here : get_or (drop start rows) read [] ≡ row
      is_here = get_or-drop start rows read [] ∙ is

      more-passing : (p : List Value → Bool) → map p (take read (drop start rows)) ++ p row ∷ [] ≡ map p (take (read + 1) (drop start rows))
      more-passing p = map-more p (drop start rows) read row inside (sym is_here ∙ get_or_default (drop start rows) read [] row inside)

      -- one row of the block more
      pub told-more : (after : List Bool) (start' read' : ℕ) (some' : Bool) → start' ≡ start → read' ≡ read + 1 → SharesKey key (get_or rows start []) row →
          ((passes : List Value → Bool) → DecidesTests tests passes → after ≡ set stays (start + read) (passes row)) →
          ((passes : List Value → Bool) → DecidesTests tests passes → some' ≡ (some || passes row)) →
          AreToldSoFar key rows tests after start' read' some'
      told-more after start' read' some' s r shares flags any =
          subst (λ n. AreToldSoFar key rows tests after n read' some') (sym s) (subst (λ n. AreToldSoFar key rows tests after start n some') (sym r) next)
        where
          next : AreToldSoFar key rows tests after start (read + 1) some'
          next = record {
            within = omega (arith, there);
            before = far.before;
            alike = λ i l h. elim (cases_le at i) [
              | inl late ↦ (let e : at ≡ i = omega (arith, late, h) in subst (SharesKey key (get_or rows start [])) (sym is ∙ ap (λ n. get_or rows n []) e) shares)
              | inr early ↦ far.alike i l early
            ];
            told = λ p k.
                let e : start + (read + 1) ≡ start + read + 1 = omega arith in
                ap (λ n. take n after) e
                ∙ ap (take (start + read + 1)) (flags p k)
                ∙ take_more_set stays (start + read) (p row) (omega (arith, there, long))
                ∙ ap (λ fs. fs ++ p row ∷ []) (far.told p k)
                ∙ append_assoc (map (stays_among key p rows) (take start rows)) (map p (take read (drop start rows))) (p row ∷ [])
                ∙ ap (λ fs. map (stays_among key p rows) (take start rows) ++ fs) (more-passing p);
            some_is = λ p k.
                any p k
                ∙ ap (λ b. b || p row) (far.some_is p k)
                ∙ ap (λ x. list_any p (take read (drop start rows)) || p x) (sym is_here)
                ∙ sym (list_any_more p (drop start rows) read [] inside);
          }

    -- what is told of the block's rows once it ends
    abbrev pub Ended : List Bool → Type 0
    Ended after = after ≡ (if some then stays else (take start stays ++ replicate read true ++ drop (start + read) stays))

    module _ (ends : (i : ℕ) → start + read ≤ i → i < length rows → SharesKey key (get_or rows start []) (get_or rows i []) → ⊥) (after : List Bool) (flags : Ended after) where
      block : (i : ℕ) → i < length rows → SharesKey key (get_or rows start []) (get_or rows i []) ↔ ((start ≤ i) × (i < start + read))
      block i there = (λ s. go s (cases_le start i) (cases_le (start + read) i), λ b. far.alike i b.0 b.1)
        where
          go : SharesKey key (get_or rows start []) (get_or rows i []) → (start ≤ i) ⊎ (i < start) → (start + read ≤ i) ⊎ (i < start + read) → (start ≤ i) × (i < start + read)
          go s (inl low) (inr high) = (low, high)
          go s (inr early) d = absurd (far.before i early s)
          go s (inl low) (inl late) = absurd (ends i late there s)

      told-here : (passes : List Value → Bool) → DecidesTests tests passes → take (start + read) after ≡ map (stays_among key passes rows) (take (start + read) rows)
      told-here passes k =
          let front = length-take-le start rows (let within = far.within in omega (arith, within)) in
          told-block key rows start read far.within block passes stays (map (stays_among key passes rows) (take start rows)) after some long (far.some_is passes k) (far.told passes k)
          (length-map (take start rows) (stays_among key passes rows) ∙ front) flags
          ∙ sym (map-append (stays_among key passes rows) (take start rows) (take read (drop start rows)))
          ∙ ap (map (stays_among key passes rows)) (sym (take-add start read rows))

    -- behind the last block it is told of all rows
    pub told-all : start + read ≡ length rows → (after : List Bool) → length after ≡ length stays → Ended after → (passes : List Value → Bool) → DecidesTests tests passes → after ≡ map (stays_among key passes rows) rows
    told-all all after as_long flags passes k =
        let none : (i : ℕ) → start + read ≤ i → i < length rows → SharesKey key (get_or rows start []) (get_or rows i []) → ⊥ = λ i l u s. omega (arith, all, l, u) in
        sym (take_all (start + read) after (omega (arith, all, as_long, long))) ∙ told-here none after flags passes k ∙ ap (map (stays_among key passes rows)) (take_all (start + read) rows (omega (arith, all)))

    -- the next block begins with a row that doesn't share the key of the one before
    pub told-next : IsStrictlySortedBy (block_cmp key) rows → start + read < length rows → (SharesKey key (get_or rows start []) (get_or rows (start + read) []) → ⊥) → (after : List Bool) → Ended after →
        (start' read' : ℕ) (some' : Bool) → start' ≡ start + read → read' ≡ 0 → some' ≡ false → AreToldSoFar key rows tests after start' read' some'
    told-next order there apart after flags start' read' some' s r e =
        subst (λ n. AreToldSoFar key rows tests after n read' some') (sym s) (subst (λ n. AreToldSoFar key rows tests after (start + read) n some') (sym r) next)
      where
        ends : (i : ℕ) → start + read ≤ i → i < length rows → SharesKey key (get_or rows start []) (get_or rows i []) → ⊥
        ends i l u shares = apart (shares-before key rows order start i (start + read) (omega arith) l u shares)

        next : AreToldSoFar key rows tests after (start + read) 0 some'
        next = record {
          within = omega (arith, there);
          before = λ i l shares. elim (cases_le start i) [
            | inl low ↦ apart (shares-trans key (get_or rows start []) (get_or rows i []) (get_or rows (start + read) []) (far.alike i low l) (shares-sym key (get_or rows (start + read) []) (get_or rows i []) shares))
            | inr early ↦ far.before i early (shares-sym key (get_or rows i []) (get_or rows start []) (grouped key rows order i start (start + read) (omega (arith, early)) (omega arith) there (shares-sym key (get_or rows (start + read) []) (get_or rows i []) shares)))
          ];
          alike = λ i l h. absurd (omega (arith, l, h));
          told = λ passes k. ap (λ n. take n after) (let e : start + read + 0 ≡ start + read = omega arith in e) ∙ told-here ends after flags passes k ∙ sym (append-nil (map (stays_among key passes rows) (take (start + read) rows)));
          some_is = λ passes k. e;
        }

-- ---- a walk over the rows

-- the rows up to a place were read: it is told of them, those from there on are left, and the one before is of the block
pub record AreRead (key : List ℕ) (rows : List (List Value)) (tests : List ColumnTest) (stays : List Bool) (start read : ℕ) (some : Bool) (left : List (List Value)) (last : List Value) : Type 0 where
  pub so_far : AreToldSoFar key rows tests stays start read some
  pub left_is : left ≡ drop (start + read) rows
  pub last_is : SharesKey key (get_or rows start []) last

-- the next row, and those behind it
pub next_row : (rows : List (List Value)) (at : ℕ) (row : List Value) (rest : List (List Value)) → drop at rows ≡ row ∷ rest → (at < length rows) × (get_or rows at [] ≡ row) × (rest ≡ drop (at + 1) rows)
next_row rows at row rest e =
    let long = ap length e in
    let behind = length-drop at rows in
    let none : at + 0 ≡ at = omega arith in (
      omega (arith, long, behind),
      ap (λ n. get_or rows n []) (sym none) ∙ sym (get_or-drop at rows 0 []) ∙ ap (λ xs. get_or xs 0 []) e,
      sym (ap (drop 1) e) ∙ drop-drop 1 at rows,
    )

module _ (key : List ℕ) (rows : List (List Value)) (tests : List ColumnTest) (stays : List Bool) (start read : ℕ) (some : Bool) (long : length stays ≡ length rows) where
  -- one row of a block is read
  read_one : AreToldSoFar key rows tests stays start read some → (row : List Value) (rest : List (List Value)) → drop (start + read) rows ≡ row ∷ rest → SharesKey key (get_or rows start []) row →
      (after : List Bool) (start' read' : ℕ) (some' : Bool) → start' ≡ start → read' ≡ read + 1 →
      ((passes : List Value → Bool) → DecidesTests tests passes → some' ≡ (some || passes row)) →
      ((passes : List Value → Bool) → DecidesTests tests passes → after ≡ set stays (start + read) (passes row)) →
      AreRead key rows tests after start' read' some' rest row
  read_one far row rest e shares after start' read' some' s r any flags =
      let next = next_row rows (start + read) row rest e in
      let behind : start + read + 1 ≡ start' + read' = omega (arith, s, r) in
      record {
        so_far = told-more key rows tests stays start read some far long row next.0 next.1 after start' read' some' s r shares flags any;
        left_is = next.2 ∙ ap (λ n. drop n rows) behind;
        last_is = subst (λ n. SharesKey key (get_or rows n []) row) (sym s) shares;
      }

  -- the first row
  pub read_first : start ≡ 0 → read ≡ 0 → some ≡ false → (row : List Value) (rest : List (List Value)) → rows ≡ row ∷ rest →
      (after : List Bool) (start' read' : ℕ) (some' : Bool) → start' ≡ start → read' ≡ read + 1 →
      ((passes : List Value → Bool) → DecidesTests tests passes → some' ≡ (some || passes row)) →
      ((passes : List Value → Bool) → DecidesTests tests passes → after ≡ set stays (start + read) (passes row)) →
      AreRead key rows tests after start' read' some' rest row
  read_first none unread never row rest e =
      let all : start + read ≡ 0 = omega (arith, none, unread) in
      read_one (told-first key rows tests stays start read some none unread never) row rest (ap (λ n. drop n rows) all ∙ e)
      (shares-eq key (get_or rows start []) row (ap (λ n. get_or rows n []) none ∙ ap (λ xs. get_or xs 0 []) e))

  module _ (left : List (List Value)) (last : List Value) (are : AreRead key rows tests stays start read some left last) where
    -- one row more
    module _ (row : List Value) (rest : List (List Value)) (steps : left ≡ row ∷ rest) where
      pub next_there : start + read < length rows
      next_there = (next_row rows (start + read) row rest (sym are.left_is ∙ steps)).0

      -- it is of the block
      pub read_more : SharesKey key last row →
          (after : List Bool) (start' read' : ℕ) (some' : Bool) → start' ≡ start → read' ≡ read + 1 →
          ((passes : List Value → Bool) → DecidesTests tests passes → some' ≡ (some || passes row)) →
          ((passes : List Value → Bool) → DecidesTests tests passes → after ≡ set stays (start + read) (passes row)) →
          AreRead key rows tests after start' read' some' rest row
      read_more same = read_one are.so_far row rest (sym are.left_is ∙ steps) (shares-trans key (get_or rows start []) last row are.last_is same)

      -- the block ends before it
      pub ended_before : IsStrictlySortedBy (block_cmp key) rows → (SharesKey key last row → ⊥) → (after : List Bool) → Ended key rows tests stays start read some are.so_far long after →
          (start' read' : ℕ) (some' : Bool) → start' ≡ start + read → read' ≡ 0 → some' ≡ false → AreToldSoFar key rows tests after start' read' some'
      ended_before order apart =
          let next = next_row rows (start + read) row rest (sym are.left_is ∙ steps) in
          told-next key rows tests stays start read some are.so_far long order next.0
          (λ s. apart (shares-trans key last (get_or rows start []) row (shares-sym key (get_or rows start []) last are.last_is) (subst (SharesKey key (get_or rows start [])) next.1 s)))

    -- no row is left
    pub read_all : left ≡ [] → (after : List Bool) → length after ≡ length stays → Ended key rows tests stays start read some are.so_far long after →
        (passes : List Value → Bool) → DecidesTests tests passes → after ≡ map (stays_among key passes rows) rows
    read_all none =
        let within = are.so_far.within in
        let behind = length-drop (start + read) rows in
        let empty = ap length (sym are.left_is ∙ none) in
        told-all key rows tests stays start read some are.so_far long (omega (arith, within, behind, empty))

-- the first row of the next block
pub read_next : (key : List ℕ) (rows : List (List Value)) (tests : List ColumnTest) (stays : List Bool) (start read : ℕ) (some : Bool) → length stays ≡ length rows → (at : ℕ) → start ≡ at → read ≡ 0 →
    AreToldSoFar key rows tests stays start read some → (row : List Value) (rest : List (List Value)) → drop at rows ≡ row ∷ rest →
    (after : List Bool) (start' read' : ℕ) (some' : Bool) → start' ≡ start → read' ≡ read + 1 →
    ((passes : List Value → Bool) → DecidesTests tests passes → some' ≡ (some || passes row)) →
    ((passes : List Value → Bool) → DecidesTests tests passes → after ≡ set stays (start + read) (passes row)) →
    AreRead key rows tests after start' read' some' rest row
read_next key rows tests stays start read some long at begins unread far row rest e =
    let here : start + read ≡ at = omega (arith, begins, unread) in
    read_one key rows tests stays start read some long far row rest (ap (λ n. drop n rows) here ∙ e)
    (shares-eq key (get_or rows start []) row (ap (λ n. get_or rows n []) begins ∙ (next_row rows at row rest e).1))

-- ---- the stretch that the tests tell

-- the tests, as a function
abbrev pub passing : List ColumnTest → List Value → Bool
passing tests row = is_yes (dec_tests tests row)

yes_then : {A : Type 0} (d : Dec A) → Dec A → IsTrue (is_yes d) → A
yes_then d (yes a) e = a
yes_then d (no h) e = absurd (true≢false (sym ((is_no d).1 h) ∙ ap not e))

then_yes : {A : Type 0} (d : Dec A) (b : Bool) → is_yes d ≡ b → A → b ≡ true
then_yes d true e a = refl
then_yes d false e a = absurd ((is_no d).0 (ap not e) a)

yes_is : {A : Type 0} (d : Dec A) → IsTrue (is_yes d) ↔ A
yes_is d = (yes_then d d, then_yes d (is_yes d) refl)

pub passing-decides : (tests : List ColumnTest) → DecidesTests tests (passing tests)
passing-decides tests row = yes_is (dec_tests tests row)

-- rows that share a key have the same first key values
first_alike : (key : List ℕ) (values x y : List Value) → SharesKey key x y → first_key key values x ≡ first_key key values y
first_alike key values x y s = key-from_shares (take (length values) key) x y (λ p m. s p (Contains-from_take (length values) key p m))

module _ (key : List ℕ) (rows : List (List Value)) (tests : List ColumnTest) (from count : ℕ) (told : IsToldStretch key rows tests from (from + count)) where
  size : length told.stretch ≡ count
  size = let e = told.end in omega (arith, e)

  -- the rows of the stretch
  pub stretch_is : take count (drop from rows) ≡ told.stretch
  stretch_is =
      let s = told.is in
      let rest : drop from rows ≡ told.stretch ++ s.behind = ap (λ n. drop n rows) (sym s.place) ∙ ap (drop (length s.before)) s.parts ∙ drop-append_seam s.before (told.stretch ++ s.behind) in
      ap (take count) rest ∙ ap (λ n. take n (told.stretch ++ s.behind)) (sym size) ∙ take-append_seam told.stretch s.behind

  has_values : (x : List Value) → Contains told.stretch x → first_key key told.values x ≡ told.values
  has_values x m = member_by_recursion (λ y. first_key key told.values y ≡ told.values) told.stretch (recursion_from_All (λ y. first_key key told.values y ≡ told.values) told.stretch told.is.these) x m

  in_stretch : (x : List Value) → Contains rows x → first_key key told.values x ≡ told.values → Contains told.stretch x
  in_stretch x m e =
      let s = told.is in
      let other : List Value → Type 0 = λ y. first_key key told.values y ≡ told.values → ⊥ in
      elim (Contains-append_cases s.before (told.stretch ++ s.behind) x (subst (λ xs. Contains xs x) s.parts m)) [
        | inl l ↦ absurd (member_by_recursion other s.before (recursion_from_All other s.before s.none_before) x l e)
        | inr r ↦ elim (Contains-append_cases told.stretch s.behind x r) [
          | inl h ↦ h
          | inr b ↦ absurd (member_by_recursion other s.behind (recursion_from_All other s.behind s.none_behind) x b e)
        ]
      ]

  in_all : (x : List Value) → Contains told.stretch x → Contains rows x
  in_all x m =
      let s = told.is in
      subst (λ xs. Contains xs x) (sym s.parts) (Contains-append_right s.before (told.stretch ++ s.behind) x (Contains-append_left told.stretch s.behind x m))

  -- whether a row stays among those of the stretch
  abbrev pub stays : List Value → Bool
  stays row = stays_among key (passing tests) told.stretch row

  abbrev rival : List Value → List Value → Bool
  rival row other = same_key key row other && passing tests other

  outside : (row : List Value) → (first_key key told.values row ≡ told.values → ⊥) → stays row ≡ true
  outside row other =
      or_right (passing tests row) (not (list_any (rival row) told.stretch)) (ap not (none_is (list_any (rival row) told.stretch) (λ e.
      let r = any_from (rival row) told.stretch e in
      let w = both (same_key key row r.0) (passing tests r.0) r.2 in
      other (first_alike key told.values row r.0 ((same_decides key row r.0).0 w.0) ∙ has_values r.0 r.1))))

  -- the rows that stay, as those of all rows
  pub kept_is : (take from rows ++ filter stays (take count (drop from rows))) ++ drop (from + count) rows ≡ filter stays rows
  kept_is =
      let e = told.end in
      let same : count ≡ from + length told.stretch - from = omega (arith, e) in
      ap (λ n. (take from rows ++ filter stays (take n (drop from rows))) ++ drop (from + count) rows) same
      ∙ ap (λ n. (take from rows ++ filter stays (take (from + length told.stretch - from) (drop from rows))) ++ drop n rows) e
      ∙ spared_all stays key rows told.values from told.stretch told.is outside

  stays_where : (row : List Value) → stays row ≡ true ↔ (TestsHold tests row ⊎ ((other : List Value) → Contains rows other → SharesKey key row other → TestsHold tests other → ⊥))
  stays_where row = (there, back)
    where
      there : stays_among key (passing tests) told.stretch row ≡ true → TestsHold tests row ⊎ ((other : List Value) → Contains rows other → SharesKey key row other → TestsHold tests other → ⊥)
      there e = go (passing tests row) refl e
        where
          go : (b : Bool) → passing tests row ≡ b → (b || not (list_any (rival row) told.stretch)) ≡ true → TestsHold tests row ⊎ ((other : List Value) → Contains rows other → SharesKey key row other → TestsHold tests other → ⊥)
          go true q f = inl ((passing-decides tests row).0 q)
          go false q f = inr (λ other m s t.
              let found = any_to (rival row) told.stretch other (in_stretch other m (told.known other t)) (and_both (same_key key row other) (passing tests other) ((same_decides key row other).1 s) ((passing-decides tests other).1 t)) in
              true≢false (sym f ∙ ap not found))

      back : TestsHold tests row ⊎ ((other : List Value) → Contains rows other → SharesKey key row other → TestsHold tests other → ⊥) → stays_among key (passing tests) told.stretch row ≡ true
      back (inl t) = or_left (passing tests row) (not (list_any (rival row) told.stretch)) ((passing-decides tests row).1 t)
      back (inr none) = or_right (passing tests row) (not (list_any (rival row) told.stretch)) (ap not (none_is (list_any (rival row) told.stretch) (λ e.
          let r = any_from (rival row) told.stretch e in
          let w = both (same_key key row r.0) (passing tests r.0) r.2 in
          none r.0 (in_all r.0 r.1) ((same_decides key row r.0).0 w.0) ((passing-decides tests r.0).0 w.1))))

  pub kept_preferred : IsStrictlySortedBy (block_cmp key) rows → IsPreferred key rows tests (filter stays rows)
  kept_preferred s = record {
    in_order = IsStrictlySortedBy-filter (block_cmp key) stays rows s;
    members = λ row. (let k = Contains-filter stays rows row in (
      λ h. let w = k.0 h in (w.0, (stays_where row).0 w.1),
      λ h. k.1 (h.0, (stays_where row).1 h.1),
    ));
  }

-- those that stay beside the others of the stretch, with all rows outside it, are the preferred ones
pub preferred_by : (key : List ℕ) (rows : List (List Value)) (tests : List ColumnTest) (from to count : ℕ) → IsStrictlySortedBy (block_cmp key) rows → IsToldStretch key rows tests from to → from + count ≡ to →
    (p : List Value → Bool) × ((take from rows ++ staying key (passing tests) (take count (drop from rows))) ++ drop (from + count) rows ≡ filter p rows) × IsPreferred key rows tests (filter p rows)
preferred_by key rows tests from to count sorted told wide =
    let here = subst (IsToldStretch key rows tests from) (sym wide) told in (
      stays key rows tests from count here,
      ap (λ xs. (take from rows ++ filter (stays_among key (passing tests) xs) (take count (drop from rows))) ++ drop (from + count) rows) (stretch_is key rows tests from count here) ∙ kept_is key rows tests from count here,
      kept_preferred key rows tests from count here sorted,
    )
