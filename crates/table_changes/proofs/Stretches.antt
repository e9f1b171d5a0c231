-- Rows that are told and taken out of a stretch some at a time, from the last ones on.
use Rattle.std.proofs.Common.{◌≡◌, ◌⊎◌, inl, inr, ◌↔◌, ◌&&◌, not, ◌||◌, IsTrue, ℕ, zero, suc, ◌+◌, ◌-◌, ◌<◌, ◌≤◌, Bool, List, [], ◌∷◌, ◌++◌, length, map, take, drop, get_or, Contains, cond, refl, sym, ap, subst, ◌∙◌, arith, append_assoc, length-append}
use Rattle.std.specs.List.{list_any, filter}
use Rattle.std.specs.List.Sorted.{IsStrictlySortedBy}
use Rattle.std.proofs.Math.Seq.{take-append_seam, drop-append_seam, take-append-add, drop-append-add}
use Rattle.std.proofs.lemmas.List.{append-nil, get_or-take, get_or-drop, length-drop, drop-drop, length-take-le, take-append-drop, take-append-le, drop-append-le, take-take, take_all}
use Rattle.std.proofs.lemmas.List.Elements.{Contains-get_or, filter-append}
use Rattle.std.proofs.lemmas.List.Filters.{length-filter_both}
use Rattle.cqa_value.specs.declared.value.Value.{Value}
use Rattle.cqa_value.proofs.Words.{mem-head, mem-tail, member_place, cases_le}
use Rattle.cqa_model.specs.Database.{Table, SharesKey, block_cmp}
use Rattle.cqa_model.proofs.BlockOrder.{grouped}
use Rattle.cqa_model.proofs.Repairs.{shares-sym, shares-trans}
use Rattle.row_order.proofs.BlockOrder.{block_total, block_exact, block_alike}
use Rattle.row_pieces.proofs.Joining.{drop_taken}
use Rattle.table_blocks.specs.Keys.{same_key}
use Rattle.table_blocks.proofs.Sharing.{same_decides}
use Rattle.table_blocks.specs.Tables.{AreValidTables, IsToldStretch, key_at, rows_at, with_rows}
use Rattle.table_blocks.specs.declared.test.ColumnTest.{ColumnTest}
use Rattle.table_blocks.proofs.Changing.{length-with_rows, rows_at-with_rows}
use Rattle.table_blocks.proofs.Merging.{sorted_front}
use Rattle.table_blocks.proofs.Spanning.{sorted-drop}
use Rattle.table_changes.specs.Preferred.{BlocksBegin, DecidesTests, IsPreferred, Prefers, stays_among, staying}
use Rattle.table_changes.proofs.Preferring.{passing, passing-decides, preferred_by, same_truth, both, any_from, any_to}

-- ---- lists

-- two tests that agree on rows keep the same of them
filter_alike : {A : Type 0} (p q : A → Bool) (xs : List A) → ((x : A) → Contains xs x → p x ≡ q x) → filter p xs ≡ filter q xs
filter_alike p q [] h = refl
filter_alike p q (x ∷ xs) h = ap (λ b. cond b (x ∷ filter p xs) (filter p xs)) (h x (mem-head x xs)) ∙ ap (λ l. cond (q x) (x ∷ l) l) (filter_alike p q xs (λ y m. h y (mem-tail y x xs m)))

length-none : {A : Type 0} (xs : List A) → length xs ≡ 0 → xs ≡ []
length-none [] e = refl
length-none (x ∷ xs) e = absurd (omega (arith, e))

-- ---- where blocks begin

-- they begin at the first place of a row's block
pub begin_at : (key : List ℕ) (rows : List (List Value)) (at start : ℕ) → IsStrictlySortedBy (block_cmp key) rows → at < length rows → start ≤ at →
    ((i : ℕ) → i ≤ at → SharesKey key (get_or rows at []) (get_or rows i []) ↔ (start ≤ i)) → BlocksBegin key rows start
begin_at key rows at start sorted there before block i j low high inside shares = go (cases_le j at)
  where
    -- the row before shares the key of the one whose block it is
    apart : SharesKey key (get_or rows at []) (get_or rows i []) → ⊥
    apart s = let high = (block i (omega (arith, low, before))).0 s in omega (arith, low, high)

    go : (j ≤ at) ⊎ (at < j) → ⊥
    go (inl early) = apart (shares-trans key (get_or rows at []) (get_or rows j []) (get_or rows i []) ((block j early).1 high) (shares-sym key (get_or rows i []) (get_or rows j []) shares))
    go (inr late) = apart (shares-sym key (get_or rows i []) (get_or rows at []) (grouped key rows sorted i at j (omega (arith, low, before)) (omega (arith, late)) inside shares))

-- ---- some whole blocks among rows

module _ (key : List ℕ) (rows : List (List Value)) (start end : ℕ) (order : start ≤ end) (within : end ≤ length rows)
    (begins : BlocksBegin key (take end rows) start) (ends : BlocksBegin key rows end) where
  abbrev part : List (List Value)
  part = drop start (take end rows)

  front_long : length (take end rows) ≡ end
  front_long = length-take-le end rows within

  part_long : length part + start ≡ end
  part_long = let behind = length-drop start (take end rows) in let long = front_long in omega (arith, behind, long, order)

  place-in : (i : ℕ) → start + i < end → get_or part i [] ≡ get_or rows (start + i) []
  place-in i early = get_or-drop start (take end rows) i [] ∙ get_or-take end rows (start + i) [] early

  -- a row of theirs has a place between theirs
  place_of : (x : List Value) → Contains part x → (i : ℕ) × (start ≤ i) × (i < end) × (get_or rows i [] ≡ x)
  place_of x m =
      let there = member_place part x [] m in
      let place = there.1 in
      let long = part_long in
      let early : start + there.0 < end = omega (arith, place, long) in
      (start + there.0, omega arith, early, sym (place-in there.0 early) ∙ there.2)

  of_place : (i : ℕ) → start ≤ i → i < end → Contains part (get_or rows i [])
  of_place i low high =
      let long = part_long in
      let back : start + (i - start) ≡ i = omega (arith, low) in
      let early : start + (i - start) < end = omega (arith, low, high) in
      subst (Contains part) (place-in (i - start) early ∙ ap (λ n. get_or rows n []) back) (Contains-get_or part (i - start) [] (omega (arith, low, high, long)))

  in_rows : (x : List Value) → Contains part x → Contains rows x
  in_rows x m =
      let a = place_of x m in
      let high = a.2 in
      subst (Contains rows) a.3 (Contains-get_or rows a.0 [] (omega (arith, high, within)))

  -- the same before the end
  apart_before : (i j : ℕ) → i < start → start ≤ j → j < end → SharesKey key (get_or rows i []) (get_or rows j []) → ⊥
  apart_before i j low high early s =
      let long = front_long in
      begins i j low high (omega (arith, long, early))
      (subst (λ x. SharesKey key x (get_or (take end rows) j [])) (sym (get_or-take end rows i [] (omega (arith, low, high, early))))
      (subst (SharesKey key (get_or rows i [])) (sym (get_or-take end rows j [] early)) s))

  -- what shares the key of one of theirs is one of theirs
  closed : (x y : List Value) → Contains part x → Contains rows y → SharesKey key x y → Contains part y
  closed x y m n s = go (cases_le start b.0) (cases_le end b.0)
    where
      a : (i : ℕ) × (start ≤ i) × (i < end) × (get_or rows i [] ≡ x)
      a = place_of x m

      b : (i : ℕ) × (i < length rows) × (get_or rows i [] ≡ y)
      b = member_place rows y [] n

      share : SharesKey key (get_or rows a.0 []) (get_or rows b.0 [])
      share = subst (λ z. SharesKey key z (get_or rows b.0 [])) (sym a.3) (subst (SharesKey key x) (sym b.2) s)

      go : (start ≤ b.0) ⊎ (b.0 < start) → (end ≤ b.0) ⊎ (b.0 < end) → Contains part y
      go (inr low) d = absurd (apart_before b.0 a.0 low a.1 a.2 (shares-sym key (get_or rows a.0 []) (get_or rows b.0 []) share))
      go (inl low) (inl late) = absurd (ends a.0 b.0 a.2 late b.1 share)
      go (inl low) (inr early) = subst (Contains part) b.2 (of_place b.0 low early)

  -- so blocks begin where they do
  pub begin_there : BlocksBegin key rows start
  begin_there i j low high inside s = elim (cases_le end j) [
    | inl late ↦ ends i j (omega (arith, low, order)) late inside s
    | inr early ↦ apart_before i j low high early s
  ]

  abbrev rival : (List Value → Bool) → List Value → List Value → Bool
  rival passes x other = same_key key x other && passes other

  -- a row of theirs stays beside them just as beside all rows
  stays_alike : (passes : List Value → Bool) (x : List Value) → Contains part x → stays_among key passes part x ≡ stays_among key passes rows x
  stays_alike passes x m = ap (λ b. passes x || not b) (same_truth _ _ to from)
    where
      to : IsTrue (list_any (rival passes x) part) → IsTrue (list_any (rival passes x) rows)
      to e = let r = any_from (rival passes x) part e in any_to (rival passes x) rows r.0 (in_rows r.0 r.1) r.2

      from : IsTrue (list_any (rival passes x) rows) → IsTrue (list_any (rival passes x) part)
      from e =
          let r = any_from (rival passes x) rows e in
          let w = both (same_key key x r.0) (passes r.0) r.2 in
          any_to (rival passes x) part r.0 (closed x r.0 m r.1 ((same_decides key x r.0).0 w.0)) r.2

  -- and they keep the same rows
  pub staying_alike : (passes : List Value → Bool) → staying key passes part ≡ filter (stays_among key passes rows) part
  staying_alike passes = filter_alike (stays_among key passes part) (stays_among key passes rows) part (stays_alike passes)

-- ---- the rows of a table while some are taken out

-- of a stretch between others those that stay were taken out from a place on
abbrev pub LeftFrom : (List Value → Bool) → List (List Value) → List (List Value) → List (List Value) → ℕ → List (List Value)
LeftFrom stays before stretch behind end = (before ++ (take end stretch ++ filter stays (drop end stretch))) ++ behind

module _ (before front rest behind : List (List Value)) where
  abbrev whole : List (List Value)
  whole = (before ++ (front ++ rest)) ++ behind

  whole_is : whole ≡ before ++ (front ++ (rest ++ behind))
  whole_is = append_assoc before (front ++ rest) behind ∙ ap (λ l. before ++ l) (append_assoc front rest behind)

  -- the front of what stands behind the others
  pub front_is : take (length front) (drop (length before) whole) ≡ front
  front_is = ap (λ l. take (length front) (drop (length before) l)) whole_is ∙ ap (take (length front)) (drop-append_seam before (front ++ (rest ++ behind))) ∙ take-append_seam front (rest ++ behind)

  pub taken_is : (start : ℕ) → start ≤ length front → take (length before + start) whole ≡ before ++ take start front
  taken_is start within = ap (take (length before + start)) whole_is ∙ take-append-add before (front ++ (rest ++ behind)) start ∙ ap (λ l. before ++ l) (take-append-le start front (rest ++ behind) within)

  pub behind_is : drop (length before + length front) whole ≡ rest ++ behind
  behind_is = ap (drop (length before + length front)) whole_is ∙ drop-append-add before (front ++ (rest ++ behind)) (length front) ∙ drop-append_seam front (rest ++ behind)

-- a stretch of some rows is taken out, and then another one before it
module _ (stays : List Value → Bool) (before stretch behind : List (List Value)) (start end : ℕ) (order : start ≤ end) (within : end ≤ length stretch) where
  abbrev front : List (List Value)
  front = take end stretch

  abbrev last : List (List Value)
  last = drop start front

  long : length front ≡ end
  long = length-take-le end stretch within

  -- what stays from the earlier place on
  stays_from : filter stays (drop start stretch) ≡ filter stays last ++ filter stays (drop end stretch)
  stays_from =
      let few : start ≤ length front = (let e = long in omega (arith, e, order)) in
      ap (λ l. filter stays (drop start l)) (sym (take-append-drop end stretch))
      ∙ ap (filter stays) (drop-append-le start front (drop end stretch) few)
      ∙ filter-append stays last (drop end stretch)

  left_step : ((before ++ take start front) ++ filter stays last) ++ (filter stays (drop end stretch) ++ behind) ≡ LeftFrom stays before stretch behind start
  left_step =
      let kept = filter stays last in
      let rest = filter stays (drop end stretch) in
      sym (append_assoc ((before ++ take start front) ++ kept) rest behind)
      ∙ ap (λ l. l ++ behind) (append_assoc (before ++ take start front) kept rest ∙ append_assoc before (take start front) (kept ++ rest))
      ∙ (λ i. (before ++ (take-take start end stretch order i ++ sym stays_from i)) ++ behind)

  module _ (from : ℕ) (place : length before ≡ from) where
    abbrev now : List (List Value)
    now = LeftFrom stays before stretch behind end

    -- what stands before the later place is as it was
    pub front_now : take end (drop from now) ≡ front
    front_now = (λ i. take (sym long i) (drop (sym place i) now)) ∙ front_is before front (filter stays (drop end stretch)) behind

    pub left_more : (take (from + start) now ++ filter stays (drop start (take end (drop from now)))) ++ drop (from + end) now ≡ LeftFrom stays before stretch behind start
    left_more =
        let few : start ≤ length front = (let e = long in omega (arith, e, order)) in
        (λ i. (take (sym place i + start) now ++ filter stays (drop start (front_now i))) ++ drop (sym place i + sym long i) now)
        ∙ (λ i. (taken_is before front (filter stays (drop end stretch)) behind start few i ++ filter stays last) ++ behind_is before front (filter stays (drop end stretch)) behind i)
        ∙ left_step

-- ---- a table's rows are changed again

with_rows-again : (db : List Table) (at : ℕ) (rows other : List (List Value)) → with_rows (with_rows db at rows) at other ≡ with_rows db at other
with_rows-again [] at rows other = refl
with_rows-again (t ∷ db) zero rows other = refl
with_rows-again (t ∷ db) (suc at) rows other = ap (λ l. t ∷ l) (with_rows-again db at rows other)

with_rows-same : (db : List Table) (at : ℕ) → with_rows db at (rows_at db at) ≡ db
with_rows-same [] at = refl
with_rows-same (t ∷ db) zero = refl
with_rows-same (t ∷ db) (suc at) = ap (λ l. t ∷ l) (with_rows-same db at)

key_at-with_rows : (db : List Table) (at : ℕ) (rows : List (List Value)) (table : ℕ) → key_at (with_rows db at rows) table ≡ key_at db table
key_at-with_rows [] at rows table = refl
key_at-with_rows (t ∷ db) zero rows zero = refl
key_at-with_rows (t ∷ db) zero rows (suc table) = refl
key_at-with_rows (t ∷ db) (suc at) rows zero = refl
key_at-with_rows (t ∷ db) (suc at) rows (suc table) = key_at-with_rows db at rows table

-- ---- a walk from the end of the stretch to its beginning

module _ (old : List Table) (table : ℕ) (tests : List ColumnTest) (from count : ℕ) where
  abbrev pub stretch_of : List (List Value)
  stretch_of = take count (drop from (rows_at old table))

  -- the table's rows once those of the stretch that don't stay are taken out from a place on
  abbrev pub left_from : (List Value → Bool) → ℕ → List (List Value)
  left_from passes end = LeftFrom (stays_among (key_at old table) passes stretch_of) (take from (rows_at old table)) stretch_of (drop (from + count) (rows_at old table)) end

  -- they are taken out from a place on, at which blocks begin
  pub record IsLeftFrom (db : List Table) (end : ℕ) : Type 0 where
    pub within : end ≤ count
    pub begins : BlocksBegin (key_at old table) stretch_of end
    pub kept : (passes : List Value → Bool) → DecidesTests tests passes → db ≡ with_rows old table (left_from passes end)
    pub stored : AreValidTables db

  module _ (there : table < length old) (fits : from + count ≤ length (rows_at old table)) where
    all_long : length stretch_of ≡ count
    all_long = let behind = length-drop from (rows_at old table) in length-take-le count (drop from (rows_at old table)) (omega (arith, behind, fits))

    before_long : length (take from (rows_at old table)) ≡ from
    before_long = length-take-le from (rows_at old table) (omega (arith, fits))

    none_gone : (stays : List Value → Bool) → LeftFrom stays (take from (rows_at old table)) stretch_of (drop (from + count) (rows_at old table)) count ≡ rows_at old table
    none_gone stays =
        let rows = rows_at old table in
        let behind = drop (from + count) rows in
        let long = all_long in
        let none : drop count stretch_of ≡ [] = length-none (drop count stretch_of) (let e = length-drop count stretch_of in omega (arith, e, long)) in
        (λ i. (take from rows ++ (take_all count stretch_of (omega (arith, long)) i ++ filter stays (none i))) ++ behind)
        ∙ ap (λ l. (take from rows ++ l) ++ behind) (append-nil stretch_of)
        ∙ append_assoc (take from rows) stretch_of behind
        ∙ ap (λ l. take from rows ++ (stretch_of ++ l)) (sym (drop-drop count from rows))
        ∙ ap (λ l. take from rows ++ l) (take-append-drop count (drop from rows))
        ∙ take-append-drop from rows

    -- at first none is taken out
    pub left_first : AreValidTables old → IsLeftFrom old count
    left_first stored = record {
      within = omega arith;
      begins = λ i j low high inside s. (let long = all_long in absurd (omega (arith, high, inside, long)));
      kept = λ passes k. sym (with_rows-same old table) ∙ ap (with_rows old table) (sym (none_gone (stays_among (key_at old table) passes stretch_of)));
      stored = stored;
    }

    -- those of some blocks more are
    module _ (db : List Table) (end : ℕ) (is : IsLeftFrom db end) where
      rows_now : (passes : List Value → Bool) → DecidesTests tests passes → rows_at db table ≡ left_from passes end
      rows_now passes k = ap (λ d. rows_at d table) (is.kept passes k) ∙ rows_at-with_rows old table (left_from passes end) there

      key_now : key_at db table ≡ key_at old table
      key_now = ap (λ d. key_at d table) (is.kept (passing tests) (passing-decides tests)) ∙ key_at-with_rows old table (left_from (passing tests) end) table

      abbrev stays : (List Value → Bool) → List Value → Bool
      stays passes = stays_among (key_at old table) passes stretch_of

      inside : end ≤ length stretch_of
      inside = let long = all_long in let within = is.within in omega (arith, long, within)

      front_left : (passes : List Value → Bool) → take end (drop from (left_from passes end)) ≡ take end stretch_of
      front_left passes = front_now (stays passes) (take from (rows_at old table)) stretch_of (drop (from + count) (rows_at old table)) end end (omega arith) inside from before_long

      pub table_fits : table < length db
      table_fits =
          let same = ap length (is.kept (passing tests) (passing-decides tests)) in
          let long = length-with_rows old table (left_from (passing tests) end) in
          omega (arith, same, long, there)

      pub end_fits : from + end ≤ length (rows_at db table)
      end_fits =
          let kept = filter (stays (passing tests)) (drop end stretch_of) in
          let before = take from (rows_at old table) in
          let all = ap length (rows_now (passing tests) (passing-decides tests)) in
          let ends = length-append (before ++ (take end stretch_of ++ kept)) (drop (from + count) (rows_at old table)) in
          let begins = length-append before (take end stretch_of ++ kept) in
          let middle = length-append (take end stretch_of) kept in
          let first = before_long in
          let next = length-take-le end stretch_of inside in
          omega (arith, all, ends, begins, middle, first, next)

      -- the rows once some blocks more are told, by the key and the rows before
      abbrev changed_by : ℕ → (List Value → Bool) → List ℕ → List (List Value) → List (List Value)
      changed_by start passes k rows = (take (from + start) rows ++ staying k passes (drop start (take end (drop from rows)))) ++ drop (from + end) rows

      pub left_next : (after : List Table) (start : ℕ) → start < end → BlocksBegin (key_at db table) (take end (drop from (rows_at db table))) start →
          ((passes : List Value → Bool) → DecidesTests tests passes → after ≡ with_rows db table (changed_by start passes (key_at db table) (rows_at db table))) →
          AreValidTables after → IsLeftFrom after start
      left_next after start early begins changed stored = record {
        within = (let within = is.within in omega (arith, within, early));
        begins = begin_there (key_at old table) stretch_of start end order inside begins_now is.begins;
        kept = next;
        stored = stored;
      }
        where
          order : start ≤ end
          order = omega (arith, early)

          begins_now : BlocksBegin (key_at old table) (take end stretch_of) start
          begins_now =
              let front = ap (λ rows. take end (drop from rows)) (rows_now (passing tests) (passing-decides tests)) ∙ front_left (passing tests) in
              subst (λ k. BlocksBegin k (take end stretch_of) start) key_now (subst (λ rows. BlocksBegin (key_at db table) rows start) front begins)

          same_kept : (passes : List Value → Bool) → changed_by start passes (key_at old table) (left_from passes end) ≡ (take (from + start) (left_from passes end) ++ filter (stays passes) (drop start (take end (drop from (left_from passes end))))) ++ drop (from + end) (left_from passes end)
          same_kept passes =
              let front = front_left passes in
              ap (λ l. (take (from + start) (left_from passes end) ++ l) ++ drop (from + end) (left_from passes end))
              (ap (λ f. staying (key_at old table) passes (drop start f)) front ∙ staying_alike (key_at old table) stretch_of start end order inside begins_now is.begins passes ∙ ap (λ f. filter (stays passes) (drop start f)) (sym front))

          next : (passes : List Value → Bool) → DecidesTests tests passes → after ≡ with_rows old table (left_from passes start)
          next passes k =
              changed passes k
              ∙ (λ i. with_rows (is.kept passes k i) table (changed_by start passes (key_now i) (rows_now passes k i)))
              ∙ with_rows-again old table (left_from passes end) (changed_by start passes (key_at old table) (left_from passes end))
              ∙ ap (with_rows old table) (same_kept passes ∙ left_more (stays passes) (take from (rows_at old table)) stretch_of (drop (from + count) (rows_at old table)) start end order inside from before_long)

    -- at last all are
    pub left_all : (db : List Table) (end : ℕ) → IsLeftFrom db end → end ≡ 0 → (passes : List Value → Bool) → DecidesTests tests passes →
        db ≡ with_rows old table ((take from (rows_at old table) ++ staying (key_at old table) passes stretch_of) ++ drop (from + count) (rows_at old table))
    left_all db end is none passes k = is.kept passes k ∙ ap (λ n. with_rows old table (left_from passes n)) none

-- ---- the last rows before a place of a stretch

-- rows of a stretch are in block order as all are
pub sorted_part : (key : List ℕ) (rows : List (List Value)) (from count : ℕ) → IsStrictlySortedBy (block_cmp key) rows → IsStrictlySortedBy (block_cmp key) (take count (drop from rows))
sorted_part key rows from count sorted =
    let behind = drop from rows in
    sorted_front (block_cmp key) (block_total key) (block_exact key) (block_alike key) (take count behind) (drop count behind) (subst (IsStrictlySortedBy (block_cmp key)) (sym (take-append-drop count behind)) (sorted-drop key rows from sorted))

-- it is told of the last rows before a place whether they stay
module _ (key key' : List ℕ) (same : key' ≡ key) (rows : List (List Value)) (tests : List ColumnTest) (from start end : ℕ) (within : from + end ≤ length rows)
    (front : List (List Value)) (is : front ≡ take end (drop from rows)) (early : start < length front) (all : List Bool) (room : end ≤ length all)
    (told : (passes : List Value → Bool) → DecidesTests tests passes → take (length front - start) all ≡ map (stays_among key' passes (drop start front)) (drop start front)) where
  abbrev flags : List Bool
  flags = take (end - start) all

  abbrev these_last : List (List Value)
  these_last = drop start (take end (drop from rows))

  front_is_long : length front ≡ end
  front_is_long = let behind = length-drop from rows in ap length is ∙ length-take-le end (drop from rows) (omega (arith, behind, within))

  last_is : these_last ≡ take (end - start) (drop (from + start) rows)
  last_is = let long = front_is_long in drop_taken start end (drop from rows) (omega (arith, early, long)) ∙ ap (take (end - start)) (drop-drop start from rows)

  flags_long : length flags ≡ end - start
  flags_long = length-take-le (end - start) all (omega (arith, room))

  pub last_told : (passes : List Value → Bool) → DecidesTests tests passes → flags ≡ map (stays_among key passes these_last) (take (length flags) (drop (from + start) rows))
  last_told passes k =
      ap (λ n. take (n - start) all) (sym front_is_long)
      ∙ told passes k
      ∙ (λ i. map (stays_among (same i) passes (drop start (is i))) (drop start (is i)))
      ∙ ap (map (stays_among key passes these_last)) (last_is ∙ ap (λ n. take n (drop (from + start) rows)) (sym flags_long))

  -- what is told of them is told by a function of rows
  pub last_by : (p : List Value → Bool) × (flags ≡ map p (take (length flags) (drop (from + start) rows)))
  last_by = (stays_among key (passing tests) these_last, last_told (passing tests) (passing-decides tests))

  pub last_kept : (passes : List Value → Bool) →
      (take (from + start) rows ++ filter (stays_among key passes these_last) (take (length flags) (drop (from + start) rows))) ++ drop (from + start + length flags) rows
      ≡ (take (from + start) rows ++ staying key passes these_last) ++ drop (from + end) rows
  last_kept passes =
      let long = flags_long in
      let wide = front_is_long in
      let seam : from + start + length flags ≡ from + end = omega (arith, long, wide, early) in
      let these : take (length flags) (drop (from + start) rows) ≡ these_last = ap (λ n. take n (drop (from + start) rows)) long ∙ sym last_is in
      (λ i. (take (from + start) rows ++ filter (stays_among key passes these_last) (these i)) ++ drop (seam i) rows)

-- ---- a table whose rows that don't stay were taken out

module _ (old new : List Table) (table : ℕ) (tests : List ColumnTest) (from to count : ℕ) (there : table < length old)
    (listed : List (List Value)) (is : listed ≡ rows_at old table) (sorted : IsStrictlySortedBy (block_cmp (key_at old table)) listed)
    (told : IsToldStretch (key_at old table) (rows_at old table) tests from to) (wide : count ≡ to - from)
    (kept : (passes : List Value → Bool) → DecidesTests tests passes → new ≡ with_rows old table ((take from (rows_at old table) ++ staying (key_at old table) passes (take count (drop from (rows_at old table)))) ++ drop (from + count) (rows_at old table))) where
  by : (p : List Value → Bool) × ((take from (rows_at old table) ++ staying (key_at old table) (passing tests) (take count (drop from (rows_at old table)))) ++ drop (from + count) (rows_at old table) ≡ filter p (rows_at old table)) × IsPreferred (key_at old table) (rows_at old table) tests (filter p (rows_at old table))
  by =
      let end = told.end in
      preferred_by (key_at old table) (rows_at old table) tests from to count (subst (IsStrictlySortedBy (block_cmp (key_at old table))) is sorted) told (omega (arith, end, wide))

  changed : new ≡ with_rows old table (filter by.0 (rows_at old table))
  changed = kept (passing tests) (passing-decides tests) ∙ ap (with_rows old table) by.1

  rows_are : rows_at new table ≡ filter by.0 (rows_at old table)
  rows_are = ap (λ d. rows_at d table) changed ∙ rows_at-with_rows old table (filter by.0 (rows_at old table)) there

  pub still_there : table < length new
  still_there =
      let same = ap length changed in
      let long = length-with_rows old table (filter by.0 (rows_at old table)) in
      omega (arith, same, long, there)

  pub fewer_left : length (rows_at new table) ≤ length (rows_at old table)
  fewer_left =
      let both = length-filter_both by.0 (λ row. not (by.0 row)) (λ row. refl) (rows_at old table) in
      let same = ap length rows_are in
      omega (arith, both, same)

  pub prefers_left : (taken : ℕ) → taken ≡ length (rows_at old table) - length (rows_at new table) → Prefers old table tests new taken
  prefers_left taken e = record {
    rows = filter by.0 (rows_at old table);
    preferred = by.2;
    changed = changed;
    count_is = (let fewer = fewer_left in let same = ap length rows_are in omega (arith, e, fewer, same));
  }
