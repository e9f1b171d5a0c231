-- The rows that a repair keeps, by name: they stand in the order of the stored rows, so at rising places.
use Rattle.std.proofs.Common.{◌≡◌, ◌<◌, ◌≤◌, ◌+◌, ℕ, suc, inl, inr, List, [], ◌∷◌, ◌++◌, length, flat_map, get_or, refl, sym, ap, ◌∙◌, subst, arith, Contains}
use Rattle.std.specs.Ordering.{nat_cmp}
use Rattle.std.specs.List.Sorted.{IsStrictlySortedBy}
use Rattle.std.proofs.lemmas.List.{length-map}
use native.Mathlib.Decide.{dec_lt}
use Rattle.cqa_value.specs.declared.value.Value.{Value}
use Rattle.cqa_value.proofs.Words.{mem-nil, mem-cases, sorted_cons, nat_cmp_less, Contains-from_map, Contains-from_flat_map, Contains-filter}
use Rattle.cqa_model.specs.declared.query.Query.{Query}
use Rattle.cqa_model.specs.declared.query.RowId.{RowId}
use Rattle.cqa_model.specs.Database.{Table, stored}
use Rattle.cqa_model.specs.Repairs.{IsSublist, IsRepair}
use Rattle.cqa_model.specs.Query.{atom_at, FitsDatabase}
use Rattle.cqa_model.proofs.Databases.{certain_or_rejected}
use Rattle.join_access.proofs.Extending.{sorted-nil}
use Rattle.repair_back.specs.Results.{AreKept, is_contested_in, contested_of}
use Rattle.table_blocks.specs.Tables.{AreStored, rows_in, names_in}
use Rattle.existence_law.specs.Rejections.{KeptRowsHaveNames, RejectionsExist}

-- ---- the places of some rows of a list, where the first of the list has a number

abbrev pub places_from : ℕ → (xs ys : List (List Value)) → IsSublist xs ys → List ℕ
places_from n [] ys s = []
places_from n (x ∷ xs) [] s = absurd s
places_from n (x ∷ xs) (y ∷ ys) (inl p) = n ∷ places_from (suc n) xs ys p.1
places_from n (x ∷ xs) (y ∷ ys) (inr s) = places_from (suc n) (x ∷ xs) ys s

place-within : (n : ℕ) (xs ys : List (List Value)) (s : IsSublist xs ys) (p : ℕ) → Contains (places_from n xs ys s) p → (n ≤ p) × (p < n + length ys)
place-within n [] ys s p m = absurd (mem-nil p m)
place-within n (x ∷ xs) [] s p m = absurd s
place-within n (x ∷ xs) (y ∷ ys) (inl h) p m = elim (mem-cases p n (places_from (suc n) xs ys h.1) m) [
  | inl e ↦ (omega (arith, e), omega (arith, e))
  | inr r ↦ let b = place-within (suc n) xs ys h.1 p r in let low = b.0 in let high = b.1 in (omega (arith, low), omega (arith, high))
]
place-within n (x ∷ xs) (y ∷ ys) (inr s) p m = let b = place-within (suc n) (x ∷ xs) ys s p m in let low = b.0 in let high = b.1 in (omega (arith, low), omega (arith, high))

pub places-rise : (n : ℕ) (xs ys : List (List Value)) (s : IsSublist xs ys) → IsStrictlySortedBy nat_cmp (places_from n xs ys s)
places-rise n [] ys s = sorted-nil nat_cmp
places-rise n (x ∷ xs) [] s = absurd s
places-rise n (x ∷ xs) (y ∷ ys) (inl h) =
    sorted_cons nat_cmp n (places_from (suc n) xs ys h.1) (λ p m. nat_cmp_less n p (let low = (place-within (suc n) xs ys h.1 p m).0 in omega (arith, low))) (places-rise (suc n) xs ys h.1)
places-rise n (x ∷ xs) (y ∷ ys) (inr s) = places-rise (suc n) (x ∷ xs) ys s

at-end : (before : List (List Value)) (y : List Value) (ys : List (List Value)) → get_or (before ++ y ∷ ys) (length before) [] ≡ y
at-end [] y ys = refl
at-end (z ∷ before) y ys = at-end before y ys

one-more : (before : List (List Value)) (y : List Value) (ys : List (List Value)) → (before ++ y ∷ []) ++ ys ≡ before ++ y ∷ ys
one-more [] y ys = refl
one-more (z ∷ before) y ys = ap (λ zs. z ∷ zs) (one-more before y ys)

long-more : (before : List (List Value)) (y : List Value) → length (before ++ y ∷ []) ≡ suc (length before)
long-more [] y = refl
long-more (z ∷ before) y = ap suc (long-more before y)

pub rows-at_places : (before xs ys : List (List Value)) (s : IsSublist xs ys) → xs ≡ rows_in (before ++ ys) (places_from (length before) xs ys s)
rows-at_places before [] ys s = refl
rows-at_places before (x ∷ xs) [] s = absurd s
rows-at_places before (x ∷ xs) (y ∷ ys) (inl h) =
    let first : x ≡ get_or (before ++ y ∷ ys) (length before) [] = h.0 ∙ sym (at-end before y ys) in
    let rest : xs ≡ rows_in (before ++ y ∷ ys) (places_from (suc (length before)) xs ys h.1) =
    rows-at_places (before ++ y ∷ []) xs ys h.1
    ∙ ap (λ zs. rows_in zs (places_from (length (before ++ y ∷ [])) xs ys h.1)) (one-more before y ys)
    ∙ ap (λ n. rows_in (before ++ y ∷ ys) (places_from n xs ys h.1)) (long-more before y) in
    cc (first, rest)
rows-at_places before (x ∷ xs) (y ∷ ys) (inr s) =
    rows-at_places (before ++ y ∷ []) (x ∷ xs) ys s
    ∙ ap (λ zs. rows_in zs (places_from (length (before ++ y ∷ [])) (x ∷ xs) ys s)) (one-more before y ys)
    ∙ ap (λ n. rows_in (before ++ y ∷ ys) (places_from n (x ∷ xs) ys s)) (long-more before y)

-- ---- the names of what a repair keeps

module _ (db : List Table) (kept : List (List (List Value))) (repair : IsRepair db kept) where
  abbrev pub places_if : (t : ℕ) → Dec (t < length (stored db)) → List ℕ
  places_if t (yes l) = places_from 0 (get_or kept t []) (get_or (stored db) t []) (repair.each t l).stored
  places_if t (no f) = []

  abbrev pub places : ℕ → List ℕ
  places t = places_if t (dec_lt t (length (stored db)))

  pub rise : (t : ℕ) (d : Dec (t < length (stored db))) → IsStrictlySortedBy nat_cmp (places_if t d)
  rise t (yes l) = places-rise 0 (get_or kept t []) (get_or (stored db) t []) (repair.each t l).stored
  rise t (no f) = sorted-nil nat_cmp

  pub within : (t : ℕ) (d : Dec (t < length (stored db))) (p : ℕ) → Contains (places_if t d) p → (t < length (stored db)) × (p < length (get_or (stored db) t []))
  within t (yes l) p m = let b = (place-within 0 (get_or kept t []) (get_or (stored db) t []) (repair.each t l).stored p m).1 in (l, omega (arith, b))
  within t (no f) p m = absurd (mem-nil p m)

  pub rows : (t : ℕ) (d : Dec (t < length (stored db))) → t < length (stored db) → get_or kept t [] ≡ rows_in (get_or (stored db) t []) (places_if t d)
  rows t (yes l) h = rows-at_places [] (get_or kept t []) (get_or (stored db) t []) (repair.each t l).stored
  rows t (no f) h = absurd (f h)

  pub size : length (stored db) ≡ length db
  size = length-map db (λ (table : Table). table.rows)

  module _ (q : Query) where
    abbrev names : List RowId
    names = flat_map (λ atom. names_in atom.table (places atom.table)) q.atoms

    are_kept : FitsDatabase q db → AreKept q db names kept
    are_kept fits = record {
      places = places;
      are = refl;
      rises = λ F l. rise (atom_at q F).table (dec_lt (atom_at q F).table (length (stored db)));
      there = λ F l p m. (within (atom_at q F).table (dec_lt (atom_at q F).table (length (stored db))) p m).1;
      rows = λ F l. rows (atom_at q F).table (dec_lt (atom_at q F).table (length (stored db))) (let s = size in let there = fits.there F l in omega (arith, s, there));
    }

    are_stored : AreStored db names
    are_stored name m =
        let a = Contains-from_flat_map (λ atom. names_in atom.table (places atom.table)) q.atoms name m in
        let p = Contains-from_map (λ p. record { table = a.0.table; place = p }) (places a.0.table) name a.2 in
        let w = within a.0.table (dec_lt a.0.table (length (stored db))) p.0 p.1 in
        subst (λ (x : RowId). (x.table < length db) × (x.place < length (get_or (stored db) x.table []))) p.2 (subst (λ n. a.0.table < n) size w.0, w.1)

pub kept_rows_have_names : KeptRowsHaveNames
kept_rows_have_names db q kept fits repair = (names db kept repair q, (are_kept db kept repair q fits, are_stored db kept repair q))

pub rejections_exist : RejectionsExist
rejections_exist db q row fits uncertain = elim (certain_or_rejected db q row) [
  | inl c ↦ absurd (uncertain c)
  | inr r ↦ let n = kept_rows_have_names db q r.0 fits r.1 in (
    contested_of db n.0,
    (
      (n.0, (r.0, r.1, n.1.0, r.2), refl),
      λ name m. n.1.1 name ((Contains-filter (is_contested_in db) n.0 name).0 m).0,
    ),
  )
]
