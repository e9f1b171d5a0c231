-- Rows that are put into a table.
use Rattle.std.proofs.Common.{◌≡◌, ◌≤◌, ◌+◌, ◌⊎◌, ◌&&◌, inl, inr, ℕ, Bool, true, false, not, IsTrue, nat_le, List, [], ◌∷◌, ◌++◌, length, map, slice_get, Contains, Option, Some, None, refl, sym, ap, ◌∙◌, subst, arith, rules, append_assoc, slice_set}
use Rattle.std.specs.Prelude.{if◌then◌else◌}
use Rattle.std.specs.List.{filter}
use Rattle.std.specs.List.Sorted.{IsStrictlySortedBy}
use Rattle.std.proofs.lemmas.Bool.{and_from, not_from_false}
use Rattle.std.proofs.lemmas.List.Elements.{Contains-append_cases, Contains-append_left, Contains-append_right}
use Rattle.std.proofs.lemmas.List.Filters.{length-filter_both}
use Rattle.std.proofs.lemmas.List.Kept.{IsStrictlySortedBy-filter}
use Rattle.std.proofs.lemmas.Option.{none-some}
use Rattle.cqa_value.specs.declared.value.Value.{Value}
use Rattle.cqa_value.specs.Values.{row_eq, row_decides, kind_of}
use Rattle.cqa_value.proofs.Words.{mem-nil, mem-cases, Contains-slice_get, Contains-filter}
use Rattle.cqa_model.specs.Database.{Table, IsTable, AreConsistent, SharesKey, block_cmp, row_total, kinds_of}
use Rattle.cqa_model.proofs.Places.{rows-at, key-at, mark-at, kinds-at}
use Rattle.cqa_model.proofs.Repairs.{shares-sym}
use Rattle.refusals.specs.declared.refusal.Refusal.TheVariants.{KeyTaken, Limit}
use Rattle.refusals.specs.declared.refusal.LimitKind.TheVariants.{Rows}
use Rattle.refusals.specs.Kinds.{rows_fault}
use Rattle.refusals.specs.Refusal.{first_of}
use Rattle.refusals.proofs.Faults.{both_none, rows_fit}
use Rattle.row_order.specs.Ordered.{block_order}
use Rattle.row_order.proofs.Reordering.{order_sorted, order_members, ordered_once}
use Rattle.table_blocks.specs.Keys.{same_key}
use Rattle.table_blocks.specs.Tables.{rows_at, key_at, mark_at, kinds_at, with_rows, AreValidRows, AreValidTables, IsMerged}
use Rattle.table_blocks.proofs.Changing.{set_with_rows, total_set, stored_set}
use Rattle.table_blocks.proofs.Sharing.{same_decides, consistent_within}
use Rattle.table_changes.specs.Changes.{is_among, count_new, limit_fault, strict_key_fault, insert_fault, Inserts}
use Rattle.table_changes.specs.Taken.{first_other, taken_by, taken_fault}
use Rattle.table_changes.proofs.Counting.{counted}
use Rattle.table_changes.proofs.FirstSharing.{first_of_filter}
use Rattle.table_changes.proofs.Membership.{among, not_among}
use Rattle.std.proofs.lemmas.List.{append-nil}

-- ---- rows of which none shares its key with another one

module _ (key : List ℕ) where
  abbrev rival : List Value → List Value → Bool
  rival row other = same_key key row other && not (row_eq row other)

  not_taken : (number : ℕ) (row : List Value) (o : Option (List Value)) → taken_by number row o ≡ None → o ≡ None
  not_taken number row None e = refl
  not_taken number row (Some kept) e = absurd (none-some (KeyTaken number kept row) (sym e))

  -- a row that stands before and shares the key is the row itself
  itself : (before : List (List Value)) (row : List Value) → first_other key before row ≡ None → (x : List Value) → Contains before x → SharesKey key row x → row ≡ x
  itself before row none x m shares = go (row_eq row x) refl
    where
      go : (b : Bool) → row_eq row x ≡ b → row ≡ x
      go true e = (row_decides row x).0 e
      go false e = absurd (first_of_filter (filter (rival row) before) none x ((Contains-filter (rival row) before x).1 (m, and_from (same_key key row x) (not (row_eq row x)) ((same_decides key row x).1 shares) (not_from_false (row_eq row x) e))))

  one_more : (before : List (List Value)) (row : List Value) → AreConsistent key before → first_other key before row ≡ None → AreConsistent key (before ++ row ∷ [])
  one_more before row consistent none x y mx my shares = go (Contains-append_cases before (row ∷ []) x mx) (Contains-append_cases before (row ∷ []) y my)
    where
      sole : (z : List Value) → Contains (row ∷ []) z → row ≡ z
      sole z m = elim (mem-cases z row [] m) [ inl e ↦ e | inr n ↦ absurd (mem-nil z n) ]

      go : Contains before x ⊎ Contains (row ∷ []) x → Contains before y ⊎ Contains (row ∷ []) y → x ≡ y
      go (inl a) (inl b) = consistent x y a b shares
      go (inl a) (inr b) = let e = sole y b in sym (itself before row none x a (subst (λ z. SharesKey key z x) (sym e) (shares-sym key x y shares))) ∙ e
      go (inr a) (inl b) = let e = sole x a in sym e ∙ itself before row none y b (subst (λ z. SharesKey key z y) (sym e) shares)
      go (inr a) (inr b) = sym (sole x a) ∙ sole y b

  none_taken : (before : List (List Value)) (number : ℕ) (rows : List (List Value)) → AreConsistent key before → taken_fault key before number rows ≡ None → AreConsistent key (before ++ rows)
  none_taken before number [] consistent e = subst (AreConsistent key) (sym (append-nil before)) consistent
  none_taken before number (row ∷ rows) consistent e =
      let both = both_none (taken_by number row (first_other key before row)) (taken_fault key (before ++ row ∷ []) (number + 1) rows) e in
      let grown = one_more before row consistent (not_taken number row (first_other key before row) both.0) in
      subst (AreConsistent key) (append_assoc before (row ∷ []) rows) (none_taken (before ++ row ∷ []) (number + 1) rows grown both.1)

-- ---- given rows, put among those of a table

module _ (key : List ℕ) (stored given : List (List Value)) (sorted : IsStrictlySortedBy (block_cmp key) stored) where
  abbrev pub merged : List (List Value)
  merged = block_order key (stored ++ given)

  pub either : (row : List Value) → Contains merged row → Contains stored row ⊎ Contains given row
  either row m = Contains-append_cases stored given row ((order_members key (stored ++ given) row).0 m)

  pub merged_is : IsMerged key stored given merged
  merged_is = record {
    in_order = order_sorted key (stored ++ given);
    members = λ row. (
      either row,
      λ h. (order_members key (stored ++ given) row).1 (elim h [ inl m ↦ Contains-append_left stored given row m | inr m ↦ Contains-append_right stored given row m ]),
    );
  }

  abbrev old : List Value → Bool
  old row = is_among stored row

  -- those that are stored are all stored rows
  old_rows : filter old merged ≡ stored
  old_rows = ordered_once key (filter old merged) stored (IsStrictlySortedBy-filter (block_cmp key) old merged (order_sorted key (stored ++ given))) sorted (λ row. (
    λ m. (among stored row).0 ((Contains-filter old merged row).0 m).1,
    λ m. (Contains-filter old merged row).1 ((merged_is.members row).1 (inl m), (among stored row).1 m),
  ))

  -- and the others are the new ones
  new_rows : length (filter (λ row. not (old row)) merged) ≡ count_new stored given
  new_rows =
      let fresh : List Value → Bool = λ row. not (old row) in
      counted key stored given (filter fresh merged) (IsStrictlySortedBy-filter (block_cmp key) fresh merged (order_sorted key (stored ++ given))) (λ row. (
        λ m. let h = (Contains-filter fresh merged row).0 m in
            let other = (not_among stored row).0 h.1 in
            (elim (either row h.0) [ inl s ↦ absurd (other s) | inr g ↦ g ], other),
        λ h. (Contains-filter fresh merged row).1 ((merged_is.members row).1 (inr h.0), (not_among stored row).1 h.1),
      ))

  pub merged_long : length merged ≡ length stored + count_new stored given
  merged_long = let sum = length-filter_both old (λ row. not (old row)) (λ row. refl) merged in let olds = ap length old_rows in let news = new_rows in omega (arith, sum, olds, news)

-- ---- given rows, put into a table of a database

-- there is room for so many rows
room : (n : ℕ) → (if nat_le n 1_000_000 then None else Some (Limit Rows)) ≡ None → n ≤ 1_000_000
room n e = go (nat_le n 1_000_000) refl e
  where
    go : (b : Bool) → nat_le n 1_000_000 ≡ b → (if b then None else Some (Limit Rows)) ≡ None → n ≤ 1_000_000
    go true q h = search (rules, q)
    go false q h = absurd (none-some (Limit Rows) (sym h))

module _ (db : List Table) (at : ℕ) (t : Table) (here : slice_get db at ≡ Some t) (s : AreValidTables db) (given : List (List Value)) (valid : AreValidRows given) (e : insert_fault db at given ≡ None) where
  abbrev first : (rows_fault (kinds_at db at) 1 given ≡ None) × (first_of (strict_key_fault db at given) (limit_fault db at given) ≡ None)
  first = both_none (rows_fault (kinds_at db at) 1 given) (first_of (strict_key_fault db at given) (limit_fault db at given)) e

  abbrev second : (strict_key_fault db at given ≡ None) × (limit_fault db at given ≡ None)
  second = both_none (strict_key_fault db at given) (limit_fault db at given) first.1

  pub is : IsTable t
  is = s.database.each t (Contains-slice_get db at t here)

  abbrev pub rows : List (List Value)
  rows = merged t.schema.key t.rows given is.in_order

  of_either : (row : List Value) → Contains rows row → Contains t.rows row ⊎ Contains given row
  of_either row m = either t.schema.key t.rows given is.in_order row m

  fit : (row : List Value) → Contains given row → map kind_of row ≡ kinds_of t.schema
  fit row m = rows_fit (kinds_at db at) 1 given first.0 row m ∙ kinds-at db at t here

  consistent : IsTrue t.schema.strict → AreConsistent t.schema.key (t.rows ++ given)
  consistent strict =
      let marked : mark_at db at ≡ true = mark-at db at t here ∙ strict in
      let free : taken_fault (key_at db at) (rows_at db at) 1 given ≡ None = ap (λ b. if b then taken_fault (key_at db at) (rows_at db at) 1 given else None) (sym marked) ∙ second.0 in
      none_taken t.schema.key t.rows 1 given (is.strict strict)
      (subst (λ key. taken_fault key t.rows 1 given ≡ None) (key-at db at t here) (subst (λ stored. taken_fault (key_at db at) stored 1 given ≡ None) (rows-at db at t here) free))

  abbrev put : Table
  put = record { schema = t.schema; rows = rows }

  put_is : IsTable put
  put_is = record {
    in_order = order_sorted t.schema.key (t.rows ++ given);
    of_schema = λ row m. elim (of_either row m) [ inl k ↦ is.of_schema row k | inr k ↦ fit row k ];
    strict = λ strict. consistent_within t.schema.key (t.rows ++ given) rows (consistent strict) (λ row m. (order_members t.schema.key (t.rows ++ given) row).0 m);
  }

  few : row_total (slice_set db at put) ≤ 1_000_000
  few =
      let sum = total_set t put db at here in
      let long = merged_long t.schema.key t.rows given is.in_order in
      let fits = room (row_total db + count_new (rows_at db at) given) second.1 in
      let same : count_new (rows_at db at) given ≡ count_new t.rows given = ap (λ l. count_new l given) (rows-at db at t here) in
      omega (arith, sum, long, fits, same)

  pub put_rows : AreValidTables (with_rows db at rows)
  put_rows =
      subst AreValidTables (set_with_rows t put refl db at here)
      (stored_set t put refl db at here s put_is (λ row m. elim (of_either row m) [ inl k ↦ s.valid t (Contains-slice_get db at t here) row k | inr k ↦ valid row k ]) few)

  pub inserts : Inserts db at given (with_rows db at rows) (count_new (rows_at db at) given)
  inserts = record {
    rows = rows;
    merged = subst (λ key. IsMerged key (rows_at db at) given rows) (sym (key-at db at t here)) (subst (λ stored. IsMerged t.schema.key stored given rows) (sym (rows-at db at t here)) (merged_is t.schema.key t.rows given is.in_order));
    changed = refl;
    count_is = refl;
  }
