-- Rows of a table that are put into it in turn.
use Rattle.std.proofs.Common.{◌≡◌, inl, inr, ◌+◌, ◌≤◌, ◌&&◌, ℕ, Bool, true, false, not, IsTrue, if◌then◌else◌, cond, List, [], ◌∷◌, ◌++◌, Contains, None, length, refl, sym, ap, ◌∙◌, subst, arith}
use Rattle.std.proofs.lemmas.List.Elements.{Contains-append_left, Contains-append_right, Contains-append_cases}
use Rattle.std.proofs.lemmas.List.Kept.{IsStrictlySortedBy-filter}
use Rattle.std.specs.List.{filter}
use Rattle.std.specs.List.Sorted.{IsStrictlySortedBy}
use Rattle.std.proofs.lemmas.Bool.{and_parts, and_from, not_from_false, false_from_ne_true}
use Rattle.cqa_value.specs.declared.value.Value.{Value}
use Rattle.cqa_value.specs.Values.{row_eq, row_decides}
use Rattle.cqa_value.proofs.Words.{mem-tail, mem-cases, mem-head, mem-nil, clash_not, Contains-filter}
use Rattle.cqa_model.specs.declared.schema.Schema.{Schema}
use Rattle.cqa_model.specs.Database.{Table, IsRowOf, AreConsistent, block_cmp, kinds_of, row_total}
use Rattle.refusals.specs.Refusal.{first_of}
use Rattle.table_blocks.specs.Keys.{same_key}
use Rattle.table_changes.specs.Taken.{first_other, taken_by, taken_fault}
use Rattle.table_blocks.specs.Tables.{rows_at, key_at, mark_at, kinds_at, with_rows, IsMerged}
use Rattle.table_changes.specs.Changes.{is_among, count_new, strict_key_fault, insert_fault, Inserts}
use Rattle.table_changes.proofs.Counting.{counted}
use Rattle.table_changes.proofs.Inserting.{valid_insert}
use Rattle.table_changes.proofs.Membership.{among}
use Rattle.row_order.proofs.Reordering.{ordered_once}
use Rattle.table_changes.proofs.FirstSharing.{none_passes}
use Rattle.table_blocks.proofs.Sharing.{same_decides}
use Rattle.table_blocks.proofs.Changing.{total_push}
use Rattle.csv_rows.proofs.Fitting.{rows_fit}

-- of some rows, those that are there already
abbrev pub part : List (List Value) → List (List Value) → List (List Value)
part rows got = filter (is_among got) rows

-- these rows are among those
abbrev pub Within : List (List Value) → List (List Value) → Type 0
Within rows given = (row : List Value) → Contains given row → Contains rows row

pub part_within : (rows got : List (List Value)) → Within rows (part rows got)
part_within rows got row m = ((Contains-filter (is_among got) rows row).0 m).0

pub merged : (key : List ℕ) (rows got given : List (List Value)) → IsStrictlySortedBy (block_cmp key) rows → Within rows given → IsMerged key (part rows got) given (part rows (got ++ given))
merged key rows got given sorted inside = record {
  in_order = IsStrictlySortedBy-filter (block_cmp key) (is_among (got ++ given)) rows sorted;
  members = λ row. (
    λ m. let h = (Contains-filter (is_among (got ++ given)) rows row).0 m in
        elim (Contains-append_cases got given row ((among (got ++ given) row).0 h.1)) [
          | inl g ↦ inl ((Contains-filter (is_among got) rows row).1 (h.0, (among got row).1 g))
          | inr g ↦ inr g
        ],
    λ h. elim h [
      | inl m ↦ (let k = (Contains-filter (is_among got) rows row).0 m in
          (Contains-filter (is_among (got ++ given)) rows row).1 (k.0, (among (got ++ given) row).1 (Contains-append_left got given row ((among got row).0 k.1))))
      | inr g ↦ (Contains-filter (is_among (got ++ given)) rows row).1 (inside row g, (among (got ++ given) row).1 (Contains-append_right got given row g))
    ],
  );
}

pub merged_once : (key : List ℕ) (old given xs ys : List (List Value)) → IsMerged key old given xs → IsMerged key old given ys → xs ≡ ys
merged_once key old given xs ys h k = ordered_once key xs ys h.in_order k.in_order (λ x. (λ m. (k.members x).1 ((h.members x).0 m), λ m. (h.members x).1 ((k.members x).0 m)))

filter_all : (p : List Value → Bool) (rows : List (List Value)) → ((row : List Value) → Contains rows row → p row ≡ true) → filter p rows ≡ rows
filter_all p [] h = refl
filter_all p (row ∷ rows) h =
    ap (λ b. cond b (row ∷ filter p rows) (filter p rows)) (h row (mem-head row rows)) ∙ ap (λ l. row ∷ l) (filter_all p rows (λ x m. h x (mem-tail x row rows m)))

-- once all rows were put there, they are the rows
pub part_all : (rows got : List (List Value)) → Within got rows → part rows got ≡ rows
part_all rows got h = filter_all (is_among got) rows (λ row m. (among got row).1 (h row m))

pub part_none : (rows : List (List Value)) → part rows [] ≡ []
part_none [] = refl
part_none (row ∷ rows) = part_none rows

none_taken : (key : List ℕ) (base before : List (List Value)) (number : ℕ) (given : List (List Value)) → AreConsistent key base → Within base before → Within base given → taken_fault key before number given ≡ None
none_taken key base before number [] apart inside within = refl
none_taken key base before number (row ∷ rows) apart inside within =
    let none : first_other key before row ≡ None =
    none_passes (λ other. same_key key row other && not (row_eq row other)) before (λ other m t.
    let h = and_parts (same_key key row other) (not (row_eq row other)) t in
    clash_not (row_eq row other) h.1 ((row_decides row other).1 (apart row other (within row (mem-head row rows)) (inside other m) ((same_decides key row other).0 h.0)))) in
    ap (λ o. first_of (taken_by number row o) (taken_fault key (before ++ row ∷ []) (number + 1) rows)) none
    ∙ none_taken key base (before ++ row ∷ []) (number + 1) rows apart
    (λ x m. elim (Contains-append_cases before (row ∷ []) x m) [
      | inl l ↦ inside x l
      | inr r ↦ elim (mem-cases x row [] r) [ inl e ↦ subst (Contains base) e (within row (mem-head row rows)) | inr n ↦ absurd (mem-nil x n) ]
    ])
    (λ x m. within x (mem-tail x row rows m))

-- two tests that no row passes both count no more than all rows
apart_fit : (p q : List Value → Bool) (rows : List (List Value)) → ((x : List Value) → p x ≡ true → q x ≡ true → ⊥) → length (filter p rows) + length (filter q rows) ≤ length rows
apart_fit p q [] apart = omega arith
apart_fit p q (x ∷ rows) apart = go (p x) (q x) (apart x) (apart_fit p q rows apart)
  where
    go : (s t : Bool) → (s ≡ true → t ≡ true → ⊥) → length (filter p rows) + length (filter q rows) ≤ length rows
        → length (cond s (x ∷ filter p rows) (filter p rows)) + length (cond t (x ∷ filter q rows) (filter q rows)) ≤ length (x ∷ rows)
    go true true never more = absurd (never refl refl)
    go true false never more = omega (arith, more)
    go false true never more = omega (arith, more)
    go false false never more = omega (arith, more)

-- the rows that are there and those that are new are no more than all
pub new_fit : (key : List ℕ) (rows got given : List (List Value)) → IsStrictlySortedBy (block_cmp key) rows → Within rows given → length (part rows got) + count_new (part rows got) given ≤ length rows
new_fit key rows got given sorted inside =
    let is_new : List Value → Bool = λ row. is_among given row && not (is_among got row) in
    let size : length (filter is_new rows) ≡ count_new (part rows got) given =
    counted key (part rows got) given (filter is_new rows) (IsStrictlySortedBy-filter (block_cmp key) is_new rows sorted) (λ row. (
      λ m. let h = (Contains-filter is_new rows row).0 m in
          let t = and_parts (is_among given row) (not (is_among got row)) h.1 in
          ((among given row).0 t.0, λ k. clash_not (is_among got row) t.1 ((Contains-filter (is_among got) rows row).0 k).1),
      λ h. (Contains-filter is_new rows row).1 (inside row h.0, and_from (is_among given row) (not (is_among got row)) ((among given row).1 h.0) (not_from_false (is_among got row) (false_from_ne_true (is_among got row) (λ g. h.1 ((Contains-filter (is_among got) rows row).1 (inside row h.0, g)))))),
    )) in
    let fit = apart_fit (is_among got) is_new rows (λ x p q. clash_not (is_among got x) (and_parts (is_among given x) (not (is_among got x)) q).1 p) in
    omega (arith, size, fit)

-- the last table of some
rows_last : (done : List Table) (t : Table) → rows_at (done ++ t ∷ []) (length done) ≡ t.rows
rows_last [] t = refl
rows_last (u ∷ done) t = rows_last done t

key_last : (done : List Table) (t : Table) → key_at (done ++ t ∷ []) (length done) ≡ t.schema.key
key_last [] t = refl
key_last (u ∷ done) t = key_last done t

mark_last : (done : List Table) (t : Table) → mark_at (done ++ t ∷ []) (length done) ≡ t.schema.strict
mark_last [] t = refl
mark_last (u ∷ done) t = mark_last done t

pub kinds_last : (done : List Table) (t : Table) → kinds_at (done ++ t ∷ []) (length done) ≡ kinds_of t.schema
kinds_last [] t = refl
kinds_last (u ∷ done) t = kinds_last done t

with_last : (done : List Table) (t : Table) (rows : List (List Value)) → with_rows (done ++ t ∷ []) (length done) rows ≡ done ++ (record t { rows = rows }) ∷ []
with_last [] t rows = refl
with_last (u ∷ done) t rows = ap (λ l. u ∷ l) (with_last done t rows)

-- a table with some of its rows, behind others
abbrev pub having : List Table → Schema → List (List Value) → List (List Value) → List Table
having done schema rows got = done ++ (record { schema = schema; rows = part rows got }) ∷ []

-- rows are put into such a table
module _ (done : List Table) (schema : Schema) (rows : List (List Value)) (sorted : IsStrictlySortedBy (block_cmp schema.key) rows) (fit : (row : List Value) → Contains rows row → IsRowOf schema row)
    (strict : IsTrue schema.strict → AreConsistent schema.key rows) (few : row_total done + length rows ≤ 1_000_000) where
  free : (got given : List (List Value)) → Within rows given → strict_key_fault (having done schema rows got) (length done) given ≡ None
  free got given inside =
      let t : Table = record { schema = schema; rows = part rows got } in
      subst (λ k. (if mark_at (having done schema rows got) (length done) then taken_fault k (rows_at (having done schema rows got) (length done)) 1 given else None) ≡ None) (sym (key_last done t))
      (subst (λ r. (if mark_at (having done schema rows got) (length done) then taken_fault schema.key r 1 given else None) ≡ None) (sym (rows_last done t))
      (subst (λ b. (if b then taken_fault schema.key (part rows got) 1 given else None) ≡ None) (sym (mark_last done t)) (go schema.strict strict)))
    where
      go : (b : Bool) → (IsTrue b → AreConsistent schema.key rows) → (if b then taken_fault schema.key (part rows got) 1 given else None) ≡ None
      go true s = none_taken schema.key rows (part rows got) 1 given (s refl) (part_within rows got) inside
      go false s = refl

  pub no_fault : (got given : List (List Value)) → Within rows given → insert_fault (having done schema rows got) (length done) given ≡ None
  no_fault got given inside =
      let t : Table = record { schema = schema; rows = part rows got } in
      let many : row_total (having done schema rows got) + count_new (rows_at (having done schema rows got) (length done)) given ≤ 1_000_000 =
      subst (λ r. row_total (having done schema rows got) + count_new r given ≤ 1_000_000) (sym (rows_last done t)) (omega (arith, total_push done t, few, new_fit schema.key rows got given sorted inside)) in
      valid_insert (having done schema rows got) (length done) given (rows_fit (kinds_at (having done schema rows got) (length done)) 1 given (λ row m. fit row (inside row m) ∙ sym (kinds_last done t))) (free got given inside) many

  merged_last : (got given : List (List Value)) → Within rows given → IsMerged (key_at (having done schema rows got) (length done)) (rows_at (having done schema rows got) (length done)) given (part rows (got ++ given))
  merged_last got given inside =
      let t : Table = record { schema = schema; rows = part rows got } in
      subst (λ k. IsMerged k (rows_at (having done schema rows got) (length done)) given (part rows (got ++ given))) (sym (key_last done t))
      (subst (λ r. IsMerged schema.key r given (part rows (got ++ given))) (sym (rows_last done t)) (merged schema.key rows got given sorted inside))

  pub put : (got given : List (List Value)) → Within rows given → Inserts (having done schema rows got) (length done) given (having done schema rows (got ++ given)) (count_new (rows_at (having done schema rows got) (length done)) given)
  put got given inside = record {
    rows = part rows (got ++ given);
    merged = merged_last got given inside;
    changed = sym (with_last done (record { schema = schema; rows = part rows got }) (part rows (got ++ given)));
    count_is = refl;
  }

  pub put_once : (got given : List (List Value)) (new : List Table) (count : ℕ) → Within rows given → Inserts (having done schema rows got) (length done) given new count → new ≡ having done schema rows (got ++ given)
  put_once got given new count inside h =
      h.changed ∙ with_last done (record { schema = schema; rows = part rows got }) h.rows
      ∙ ap (λ r. done ++ (record { schema = schema; rows = r }) ∷ []) (merged_once (key_at (having done schema rows got) (length done)) (rows_at (having done schema rows got) (length done)) given h.rows (part rows (got ++ given)) h.merged (merged_last got given inside))
