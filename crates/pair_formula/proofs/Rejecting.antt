-- The repair that is found for a row of a pair, as a repair of the query's tables.
use Rattle.std.proofs.Common.{◌≡◌, ◌≢◌, ◌⊎◌, inl, inr, ℕ, zero, suc, ◌+◌, ◌-◌, ◌<◌, ◌≤◌, nat_lt, cond, Bool, true, false, true≢false, List, [], ◌∷◌, ◌++◌, length, get_or, map, flat_map, refl, sym, ap, ◌∙◌, subst, arith, Contains, lt-ltb, ltb-true, Less, eqb}
use native.Mathlib.Decide.{dec_lt}
use Rattle.std.proofs.lemmas.Bool.{ne_eqb, eq-eqb}
use Rattle.std.specs.List.Sorted.{IsStrictlySortedBy}
use Rattle.std.specs.Ordering.{nat_cmp}
use Rattle.std.proofs.Math.ListN.{get_or-map}
use Rattle.std.proofs.lemmas.List.{length-append, length-map, get_or_append_left, get_or-append-add, get_or_default, append-nil}
use Rattle.std.proofs.lemmas.List.Elements.{Contains-get_or}
use Rattle.std.proofs.lemmas.Map.Keys.{Less-from_sorted}
use Rattle.cqa_value.specs.declared.value.Value.{Value}
use Rattle.cqa_value.proofs.Words.{Contains-map, Contains-from_map, nat_cmp_less}
use Rattle.cqa_model.specs.declared.query.Query.{Query}
use Rattle.cqa_model.specs.declared.query.Atom.{Atom}
use Rattle.cqa_model.specs.declared.query.RowId.{RowId}
use Rattle.cqa_model.specs.Database.{Table, IsDatabase, IsTable, block_cmp, stored}
use Rattle.cqa_model.specs.Repairs.{IsSublist}
use Rattle.cqa_model.specs.Query.{atom_at, rows_of, FitsDatabase}
use Rattle.cqa_model.specs.Plan.{Placed}
use Rattle.cqa_model.proofs.Classic.{mem-head, mem-tail, mem-nil, mem-cases}
use Rattle.cqa_model.proofs.BlockOrder.{block_total}
use Rattle.cqa_model.proofs.Reification.{placed}
use Rattle.join_access.proofs.Sorted.{one_sorted, sorted-from}
use Rattle.pair_answers.specs.Numbers.{placed_in, numbered, place_of}
use Rattle.pair_answers.specs.Kept.{id_of, AreAscendingFrom}
use Rattle.pair_answers.specs.Kept as pairs
use Rattle.repair_back.specs.Results.{AreKept, Rejects}
use Rattle.table_blocks.specs.Tables.{AreStored, rows_in, names_in}
use Rattle.table_blocks.proofs.Keeping.{sublist-sorted}

-- ---- ascending numbers

ascending-above : (least : ℕ) (ns : List ℕ) → AreAscendingFrom least ns → (n : ℕ) → Contains ns n → least ≤ n
ascending-above least [] h n m = absurd (mem-nil n m)
ascending-above least (k ∷ ns) h n m = elim (mem-cases n k ns m) [
  | inl e ↦ let l = h.0 in omega (arith, l, e)
  | inr t ↦ let r = ascending-above (k + 1) ns h.1 n t in let l = h.0 in omega (arith, l, r)
]

ascending-rises : (least : ℕ) (ns : List ℕ) → AreAscendingFrom least ns → (i j : ℕ) → i < j → j < length ns → get_or ns i 0 < get_or ns j 0
ascending-rises least [] h i j l s = absurd (omega (arith, s))
ascending-rises least (n ∷ ns) h zero zero l s = absurd (omega (arith, l))
ascending-rises least (n ∷ ns) h zero (suc j) l s = let r = ascending-above (n + 1) ns h.1 (get_or ns j 0) (Contains-get_or ns j 0 (omega (arith, s))) in omega (arith, r)
ascending-rises least (n ∷ ns) h (suc i) zero l s = absurd (omega (arith, l))
ascending-rises least (n ∷ ns) h (suc i) (suc j) l s = ascending-rises (n + 1) ns h.1 i j (omega (arith, l)) (omega (arith, s))

ascending-sorted : (least : ℕ) (ns : List ℕ) → AreAscendingFrom least ns → IsStrictlySortedBy nat_cmp ns
ascending-sorted least ns h = sorted-from nat_cmp ns 0 (λ i j l s. nat_cmp_less (get_or ns i 0) (get_or ns j 0) (ascending-rises least ns h i j l s))

-- ---- the numbers below one, and the others

module _ (n : ℕ) where
  not-below : (k : ℕ) → nat_lt k n ≡ false → n ≤ k
  not-below k e = go (dec_lt k n)
    where
      go : Dec (k < n) → n ≤ k
      go (yes l) = absurd (true≢false (sym (lt-ltb k n l) ∙ e))
      go (no f) = omega (arith, f)

  abbrev shift : List ℕ → List ℕ
  shift ns = map (λ k. k - n) ns

  abbrev low : List ℕ → List ℕ
  low [] = []
  low (k ∷ ks) = cond (nat_lt k n) (k ∷ low ks) []

  abbrev high : List ℕ → List ℕ
  high [] = []
  high (k ∷ ks) = cond (nat_lt k n) (high ks) (shift (k ∷ ks))

  shift-ascending : (least : ℕ) (ks : List ℕ) → n ≤ least → AreAscendingFrom least ks → AreAscendingFrom (least - n) (shift ks)
  shift-ascending least [] l h = tt
  shift-ascending least (k ∷ ks) l h =
      let a = h.0 in
      let e : (k + 1) - n ≡ (k - n) + 1 = omega (arith, l, a) in
      (omega (arith, l, a), subst (λ z. AreAscendingFrom z (shift ks)) e (shift-ascending (k + 1) ks (omega (arith, l, a)) h.1))

  weaker : (a b : ℕ) (ks : List ℕ) → a ≤ b → AreAscendingFrom b ks → AreAscendingFrom a ks
  weaker a b [] l h = tt
  weaker a b (k ∷ ks) l h = ((let s = h.0 in omega (arith, l, s)), h.1)

  low-up : (least : ℕ) (ks : List ℕ) → AreAscendingFrom least ks → AreAscendingFrom least (low ks)
  low-up least [] h = tt
  low-up least (k ∷ ks) h = low-cases (nat_lt k n) least k ks h.0 (low-up (k + 1) ks h.1)
    where
      low-cases : (b : Bool) (least k : ℕ) (ks : List ℕ) → least ≤ k → AreAscendingFrom (k + 1) (low ks) → AreAscendingFrom least (cond b (k ∷ low ks) [])
      low-cases true least k ks l h = (l, h)
      low-cases false least k ks l h = tt

  high-up : (least : ℕ) (ks : List ℕ) → AreAscendingFrom least ks → AreAscendingFrom 0 (high ks)
  high-up least [] h = tt
  high-up least (k ∷ ks) h = high-cases (nat_lt k n) refl (high-up (k + 1) ks h.1)
    where
      high-cases : (b : Bool) → nat_lt k n ≡ b → AreAscendingFrom 0 (high ks) → AreAscendingFrom 0 (cond b (high ks) (shift (k ∷ ks)))
      high-cases true e r = r
      high-cases false e r = weaker 0 (k - n) (shift (k ∷ ks)) (omega arith) (shift-ascending k (k ∷ ks) (not-below k e) (omega arith, h.1))

  low-in : (ks : List ℕ) (p : ℕ) → Contains (low ks) p → Contains ks p × (p < n)
  low-in [] p m = absurd (mem-nil p m)
  low-in (k ∷ ks) p m = go (nat_lt k n) refl (λ t. low-in ks p t) m
    where
      go : (b : Bool) → nat_lt k n ≡ b → (Contains (low ks) p → Contains ks p × (p < n)) → Contains (cond b (k ∷ low ks) []) p → Contains (k ∷ ks) p × (p < n)
      go true e rest m2 = elim (mem-cases p k (low ks) m2) [
        | inl d ↦ (subst (λ z. Contains (k ∷ ks) z) d (mem-head k ks), subst (λ z. z < n) d (ltb-true k n e))
        | inr t ↦ let r = rest t in (mem-tail p k ks r.0, r.1)
      ]
      go false e rest m2 = absurd (mem-nil p m2)

  low-all : (least : ℕ) (ks : List ℕ) → AreAscendingFrom least ks → (p : ℕ) → Contains ks p → p < n → Contains (low ks) p
  low-all least [] h p m l = absurd (mem-nil p m)
  low-all least (k ∷ ks) h p m l = go (nat_lt k n) refl (λ t. low-all (k + 1) ks h.1 p t l)
    where
      go : (b : Bool) → nat_lt k n ≡ b → (Contains ks p → Contains (low ks) p) → Contains (cond b (k ∷ low ks) []) p
      go true e rest = elim (mem-cases p k ks m) [
        | inl d ↦ subst (λ z. Contains (k ∷ low ks) z) d (mem-head k (low ks))
        | inr t ↦ mem-tail p k (low ks) (rest t)
      ]
      go false e rest = absurd (elim (mem-cases p k ks m) [
        | inl d ↦ (let a = not-below k e in omega (arith, a, d, l))
        | inr t ↦ (let a = not-below k e in let b = ascending-above (k + 1) ks h.1 p t in omega (arith, a, b, l))
      ])

  shift-in : (ks : List ℕ) (p : ℕ) → ((k : ℕ) → Contains ks k → n ≤ k) → Contains (shift ks) p → Contains ks (n + p)
  shift-in ks p low m =
      let h = Contains-from_map (λ k. k - n) ks p m in
      let l = low h.0 h.1 in
      let d = h.2 in
      subst (λ z. Contains ks z) (let e : h.0 ≡ n + p = omega (arith, l, d) in e) h.1

  high-in : (least : ℕ) (ks : List ℕ) → AreAscendingFrom least ks → (p : ℕ) → Contains (high ks) p → Contains ks (n + p)
  high-in least [] h p m = absurd (mem-nil p m)
  high-in least (k ∷ ks) h p m = go (nat_lt k n) refl (λ t. high-in (k + 1) ks h.1 p t) m
    where
      go : (b : Bool) → nat_lt k n ≡ b → (Contains (high ks) p → Contains ks (n + p)) → Contains (cond b (high ks) (shift (k ∷ ks))) p → Contains (k ∷ ks) (n + p)
      go true e rest m2 = mem-tail (n + p) k ks (rest m2)
      go false e rest m2 = shift-in (k ∷ ks) p (λ j c. let a = not-below k e in let b = ascending-above k (k ∷ ks) (omega arith, h.1) j c in omega (arith, a, b)) m2

  high-all : (ks : List ℕ) (p : ℕ) → Contains ks (n + p) → Contains (high ks) p
  high-all [] p m = absurd (mem-nil (n + p) m)
  high-all (k ∷ ks) p m = go (nat_lt k n) refl (λ t. high-all ks p t)
    where
      go : (b : Bool) → nat_lt k n ≡ b → (Contains ks (n + p) → Contains (high ks) p) → Contains (cond b (high ks) (shift (k ∷ ks))) p
      go true e rest = rest (elim (mem-cases (n + p) k ks m) [ inl d ↦ absurd (let l = ltb-true k n e in omega (arith, l, d)) | inr t ↦ t ])
      go false e rest = subst (λ z. Contains (shift (k ∷ ks)) z) (let e2 : (n + p) - n ≡ p = omega arith in e2) (Contains-map (λ j. j - n) (k ∷ ks) (n + p) m)

  -- the names of the numbers are those of both
  module _ (left right : ℕ) where
    abbrev name : ℕ → RowId
    name i = cond (nat_lt i n) (record { table = left; place = i }) (record { table = right; place = i - n })

    names-high : (ks : List ℕ) → ((k : ℕ) → Contains ks k → n ≤ k) → map name ks ≡ names_in right (shift ks)
    names-high [] h = refl
    names-high (k ∷ ks) h = ap (λ z. z ∷ map name ks) (one (nat_lt k n) refl) ∙ ap (λ z. record { table = right; place = k - n } ∷ z) (names-high ks (λ j m. h j (mem-tail j k ks m)))
      where
        one : (b : Bool) → nat_lt k n ≡ b → ◌≡◌ {A = RowId} (cond b (record { table = left; place = k }) (record { table = right; place = k - n })) (record { table = right; place = k - n })
        one true e = absurd (let l = ltb-true k n e in let a = h k (mem-head k ks) in omega (arith, l, a))
        one false e = refl

    names-split : (least : ℕ) (ks : List ℕ) → AreAscendingFrom least ks → map name ks ≡ names_in left (low ks) ++ names_in right (high ks)
    names-split least [] h = refl
    names-split least (k ∷ ks) h = go (nat_lt k n) refl (names-split (k + 1) ks h.1)
      where
        go : (b : Bool) → nat_lt k n ≡ b → map name ks ≡ names_in left (low ks) ++ names_in right (high ks) →
            cond b (record { table = left; place = k }) (record { table = right; place = k - n }) ∷ map name ks ≡ names_in left (cond b (k ∷ low ks) []) ++ names_in right (cond b (high ks) (shift (k ∷ ks)))
        go true e rest = ap (λ z. record { table = left; place = k } ∷ z) rest
        go false e rest = ap (λ z. record { table = right; place = k - n } ∷ z) (names-high ks (λ j c. let a = not-below k e in let b = ascending-above (k + 1) ks h.1 j c in omega (arith, a, b)))

-- ---- rows of a table by their places

rows-sorted : (key : List ℕ) (rows : List (List Value)) (ps : List ℕ) → IsStrictlySortedBy (block_cmp key) rows → AreAscendingFrom 0 ps → ((p : ℕ) → Contains ps p → p < length rows) → IsStrictlySortedBy (block_cmp key) (rows_in rows ps)
rows-sorted key rows ps s up within = sorted-from (block_cmp key) (rows_in rows ps) [] (λ i j l k. less i j l (let n = length-map ps (λ p. get_or rows p []) in omega (arith, k, n)))
  where
    at : (i : ℕ) → i < length ps → get_or (rows_in rows ps) i [] ≡ get_or rows (get_or ps i 0) []
    at i l = get_or_default (rows_in rows ps) i [] (get_or rows 0 []) (let n = length-map ps (λ p. get_or rows p []) in omega (arith, l, n)) ∙ get_or-map (λ p. get_or rows p []) ps i 0

    less : (i j : ℕ) → i < j → j < length ps → block_cmp key (get_or (rows_in rows ps) i []) (get_or (rows_in rows ps) j []) ≡ Less
    less i j l k =
        subst (λ z. block_cmp key z (get_or (rows_in rows ps) j []) ≡ Less) (sym (at i (omega (arith, l, k)))) (subst (λ z. block_cmp key (get_or rows (get_or ps i 0) []) z ≡ Less) (sym (at j k))
        (Less-from_sorted (block_cmp key) rows (get_or ps i 0) (get_or ps j 0) [] s (ascending-rises 0 ps up i j l k) (within (get_or ps j 0) (Contains-get_or ps j 0 k))))

kept-rows : (key : List ℕ) (rows kept : List (List Value)) (ps : List ℕ) → IsStrictlySortedBy (block_cmp key) rows → IsSublist kept rows → AreAscendingFrom 0 ps → ((p : ℕ) → Contains ps p → p < length rows) →
    ((x : List Value) → Contains kept x → (p : ℕ) × Contains ps p × (get_or rows p [] ≡ x)) → ((p : ℕ) → Contains ps p → Contains kept (get_or rows p [])) → kept ≡ rows_in rows ps
kept-rows key rows kept ps s sub up within to from =
    one_sorted (block_cmp key) (block_total key) kept (rows_in rows ps) (sublist-sorted key kept rows sub s) (rows-sorted key rows ps s up within)
    (λ x m. let h = to x m in subst (λ z. Contains (rows_in rows ps) z) h.2 (Contains-map (λ p. get_or rows p []) ps h.0 h.1))
    (λ x m. let h = Contains-from_map (λ p. get_or rows p []) ps x m in subst (λ z. Contains kept z) h.2 (from h.0 h.1))

sorted-at : (tables : List Table) → ((table : Table) → Contains tables table → IsTable table) → (t : ℕ) → (key : List ℕ) × IsStrictlySortedBy (block_cmp key) (get_or (stored tables) t [])
unfolding IsStrictlySortedBy
sorted-at [] k t = ([], tt)
sorted-at (table ∷ tables) k zero = (table.schema.key, (k table (mem-head table tables)).in_order)
sorted-at (table ∷ tables) k (suc t) = sorted-at tables (λ z m. k z (mem-tail z table tables m)) t

-- ---- the repair

module _ (q : Query) (db : List Table) (row : List Value) (ids : List RowId) (base : IsDatabase db) (fits : FitsDatabase q db) (two : length q.atoms ≡ 2) (h : pairs.RejectsByNumbers q db row ids) where
  abbrev xs : List (List Value)
  xs = rows_of q (stored db) 0

  abbrev ys : List (List Value)
  ys = rows_of q (stored db) 1

  abbrev n : ℕ
  n = length xs

  abbrev first : ℕ
  first = (atom_at q 0).table

  abbrev second : ℕ
  second = (atom_at q 1).table

  differ : first ≢ second
  differ e = let s = q.kept.apart 0 1 (omega (arith, two)) (omega (arith, two)) e in omega (arith, s)

  abbrev places : ℕ → List ℕ
  places t = cond (eqb t first) (low n h.numbers) (high n h.numbers)

  first-places : places first ≡ low n h.numbers
  first-places = ap (λ b. cond b (low n h.numbers) (high n h.numbers)) (eq-eqb first first refl)

  second-places : places second ≡ high n h.numbers
  second-places = ap (λ b. cond b (low n h.numbers) (high n h.numbers)) (ne_eqb second first (λ e. differ (sym e)))

  left-place : (i : ℕ) → i < n → place_of q (stored db) i ≡ placed 0 (get_or xs i [])
  left-place i l = get_or_append_left (placed_in 0 xs) (placed_in 1 ys) (record { atom = 0; row = [] }) i (let e = length-map xs (placed 0) in omega (arith, l, e)) ∙ placed-at xs i l
    where
      placed-at : (zs : List (List Value)) (k : ℕ) → k < length zs → get_or (placed_in 0 zs) k (record { atom = 0; row = [] }) ≡ placed 0 (get_or zs k [])
      placed-at [] k l = absurd (omega (arith, l))
      placed-at (z ∷ zs) zero l = refl
      placed-at (z ∷ zs) (suc k) l = placed-at zs k (omega (arith, l))

  right-place : (i : ℕ) → i < length ys → place_of q (stored db) (n + i) ≡ placed 1 (get_or ys i [])
  right-place i l =
      let e = length-map xs (placed 0) in
      let k : n + i ≡ length (placed_in 0 xs) + i = omega (arith, e) in
      ap (λ z. place_of q (stored db) z) k ∙ (get_or-append-add (placed_in 0 xs) (placed_in 1 ys) i (record { atom = 0; row = [] }) ∙ placed-at ys i l)
    where
      placed-at : (zs : List (List Value)) (k : ℕ) → k < length zs → get_or (placed_in 1 zs) k (record { atom = 0; row = [] }) ≡ placed 1 (get_or zs k [])
      placed-at [] k l = absurd (omega (arith, l))
      placed-at (z ∷ zs) zero l = refl
      placed-at (z ∷ zs) (suc k) l = placed-at zs k (omega (arith, l))

  placed-row : (F G : ℕ) (x y : List Value) → placed F x ≡ placed G y → (F ≡ G) × (x ≡ y)
  placed-row F G x y e = (ap (λ (p : Placed). p.atom) e, ap (λ (p : Placed). p.row) e)

  low-within : (p : ℕ) → Contains (low n h.numbers) p → p < n
  low-within p m = (low-in n h.numbers p m).1

  all-count : length (numbered q (stored db)) ≡ n + length ys
  all-count = length-append (placed_in 0 xs) (placed_in 1 ys) ∙ (let a = length-map xs (placed 0) in let b = length-map ys (placed 1) in omega (arith, a, b))

  high-within : (p : ℕ) → Contains (high n h.numbers) p → p < length ys
  high-within p m = let l = h.are.within (n + p) (high-in n 0 h.numbers h.are.ascending p m) in let e = all-count in omega (arith, l, e)

  key-sorted : (F : ℕ) → F < length q.atoms → (key : List ℕ) × IsStrictlySortedBy (block_cmp key) (rows_of q (stored db) F)
  key-sorted F l = sorted-at db base.each (atom_at q F).table

  sub-rows : (F : ℕ) → F < length q.atoms → IsSublist (rows_of q h.kept F) (rows_of q (stored db) F)
  sub-rows F l = (h.repair.each (atom_at q F).table (let a = fits.there F l in let b = length-map db (λ (t : Table). t.rows) in omega (arith, a, b))).stored

  left-rows : rows_of q h.kept 0 ≡ rows_in xs (low n h.numbers)
  left-rows =
      let l : 0 < length q.atoms = omega (arith, two) in
      let s = key-sorted 0 l in
      kept-rows s.0 xs (rows_of q h.kept 0) (low n h.numbers) s.1 (sub-rows 0 l) (low-up n 0 h.numbers h.are.ascending) low-within to from
    where
      to : (x : List Value) → Contains (rows_of q h.kept 0) x → (p : ℕ) × Contains (low n h.numbers) p × (get_or xs p [] ≡ x)
      to x m = at ((h.are.exactly 0 (omega (arith, two)) x).0 m)
        where
          cases : (i j : ℕ) → (i < j) ⊎ (j ≤ i)
          cases i j = grind arith

          at : (i : ℕ) × Contains h.numbers i × (place_of q (stored db) i ≡ placed 0 x) → (p : ℕ) × Contains (low n h.numbers) p × (get_or xs p [] ≡ x)
          at (i, k, e) = elim (cases i n) [
            | inl l ↦ (i, low-all n 0 h.numbers h.are.ascending i k l, (placed-row 0 0 (get_or xs i []) x (sym (left-place i l) ∙ e)).1)
            | inr g ↦
                let w = h.are.within i k in
                let c = all-count in
                let d : n + (i - n) ≡ i = omega (arith, g) in
                absurd (let z = (placed-row 1 0 (get_or ys (i - n) []) x (sym (right-place (i - n) (omega (arith, w, c, g))) ∙ (ap (λ u. place_of q (stored db) u) d ∙ e))).0 in omega (arith, z))
          ]

      from : (p : ℕ) → Contains (low n h.numbers) p → Contains (rows_of q h.kept 0) (get_or xs p [])
      from p m = let a = low-in n h.numbers p m in (h.are.exactly 0 (omega (arith, two)) (get_or xs p [])).1 (p, a.0, left-place p a.1)

  right-rows : rows_of q h.kept 1 ≡ rows_in ys (high n h.numbers)
  right-rows =
      let l : 1 < length q.atoms = omega (arith, two) in
      let s = key-sorted 1 l in
      kept-rows s.0 ys (rows_of q h.kept 1) (high n h.numbers) s.1 (sub-rows 1 l) (high-up n 0 h.numbers h.are.ascending) high-within to from
    where
      to : (x : List Value) → Contains (rows_of q h.kept 1) x → (p : ℕ) × Contains (high n h.numbers) p × (get_or ys p [] ≡ x)
      to x m = at ((h.are.exactly 1 (omega (arith, two)) x).0 m)
        where
          cases : (i j : ℕ) → (i < j) ⊎ (j ≤ i)
          cases i j = grind arith

          at : (i : ℕ) × Contains h.numbers i × (place_of q (stored db) i ≡ placed 1 x) → (p : ℕ) × Contains (high n h.numbers) p × (get_or ys p [] ≡ x)
          at (i, k, e) = elim (cases i n) [
            | inl l ↦ absurd (let z = (placed-row 0 1 (get_or xs i []) x (sym (left-place i l) ∙ e)).0 in omega (arith, z))
            | inr g ↦
                let w = h.are.within i k in
                let c = all-count in
                let d : n + (i - n) ≡ i = omega (arith, g) in
                (i - n, high-all n h.numbers (i - n) (subst (λ z. Contains h.numbers z) (sym d) k), (placed-row 1 1 (get_or ys (i - n) []) x (sym (right-place (i - n) (omega (arith, w, c, g))) ∙ (ap (λ u. place_of q (stored db) u) d ∙ e))).1)
          ]

      from : (p : ℕ) → Contains (high n h.numbers) p → Contains (rows_of q h.kept 1) (get_or ys p [])
      from p m = (h.are.exactly 1 (omega (arith, two)) (get_or ys p [])).1 (n + p, high-in n 0 h.numbers h.are.ascending p m, right-place p (high-within p m))

  two-atoms : (zs : List Atom) (d : Atom) → length zs ≡ 2 → zs ≡ get_or zs 0 d ∷ get_or zs 1 d ∷ []
  two-atoms [] d e = absurd (omega (arith, e))
  two-atoms (a ∷ []) d e = absurd (omega (arith, e))
  two-atoms (a ∷ b ∷ []) d e = refl
  two-atoms (a ∷ b ∷ c ∷ zs) d e = absurd (omega (arith, e))

  -- what holds of both tables holds of the table of each atom
  both : (P : ℕ → ℕ → Type 0) → P 0 first → P 1 second → (F : ℕ) → F < length q.atoms → P F (atom_at q F).table
  both P a b zero l = a
  both P a b (suc zero) l = b
  both P a b (suc (suc F)) l = absurd (omega (arith, l, two))

  pair-kept : AreKept q db ids h.kept
  pair-kept = record {
    places = places;
    are = h.named ∙ (names-split n first second 0 h.numbers h.are.ascending
        ∙ (ap (λ z. z ++ names_in second (high n h.numbers)) (ap (names_in first) (sym first-places))
        ∙ (ap (λ z. names_in first (places first) ++ z) (ap (names_in second) (sym second-places) ∙ sym (append-nil (names_in second (places second))))
        ∙ ap (flat_map (λ (atom : Atom). names_in atom.table (places atom.table))) (sym (two-atoms q.atoms (record { table = 0; width = 0; key = []; strict = false }) two)))));
    rises = both (λ F t. IsStrictlySortedBy nat_cmp (places t))
        (subst (IsStrictlySortedBy nat_cmp) (sym first-places) (ascending-sorted 0 (low n h.numbers) (low-up n 0 h.numbers h.are.ascending)))
        (subst (IsStrictlySortedBy nat_cmp) (sym second-places) (ascending-sorted 0 (high n h.numbers) (high-up n 0 h.numbers h.are.ascending)));
    there = both (λ F t. (p : ℕ) → Contains (places t) p → p < length (rows_of q (stored db) F))
        (λ p m. low-within p (subst (λ z. Contains z p) first-places m)) (λ p m. high-within p (subst (λ z. Contains z p) second-places m));
    rows = both (λ F t. rows_of q h.kept F ≡ rows_in (rows_of q (stored db) F) (places t)) (left-rows ∙ ap (rows_in xs) (sym first-places)) (right-rows ∙ ap (rows_in ys) (sym second-places));
  }

  pub pair-rejects : Rejects q db row ids
  pair-rejects = (h.kept, h.repair, pair-kept, h.none)

  pub pair-stored : AreStored db ids
  pair-stored name m = go (Contains-from_map (id_of q (stored db)) h.numbers name (subst (λ z. Contains z name) h.named m))
    where
      inside : (i : ℕ) → i < n + length ys → (b : Bool) → nat_lt i n ≡ b → (z : RowId) → cond b (record { table = first; place = i }) (record { table = second; place = i - n }) ≡ z → (z.table < length db) × (z.place < length (get_or (stored db) z.table []))
      inside i l true e z d = subst (λ (u : RowId). (u.table < length db) × (u.place < length (get_or (stored db) u.table []))) d (fits.there 0 (omega (arith, two)), ltb-true i n e)
      inside i l false e z d = subst (λ (u : RowId). (u.table < length db) × (u.place < length (get_or (stored db) u.table []))) d (fits.there 1 (omega (arith, two)), (let a = not-below n i e in omega (arith, l, a)))

      go : (i : ℕ) × Contains h.numbers i × (id_of q (stored db) i ≡ name) → (name.table < length db) × (name.place < length (get_or (stored db) name.table []))
      go (i, k, e) = inside i (let w = h.are.within i k in let c = all-count in omega (arith, w, c)) (nat_lt i n) refl name e
