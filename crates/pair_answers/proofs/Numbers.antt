-- Rows that are numbered block by block.
use Rattle.std.proofs.Common.{◌≡◌, ℕ, zero, suc, ◌+◌, ◌-◌, ◌<◌, ◌⊎◌, inl, inr, List, [], ◌∷◌, ◌++◌, length, get_or, map, refl, sym, ap, ◌∙◌, subst, arith, Contains, lt-ltb, ltb-true}
use Rattle.std.specs.Prelude.{slice_index}
use native.Mathlib.Decide.{dec_lt}
use Rattle.std.proofs.Math.ListN.{get_or-map}
use Rattle.std.proofs.lemmas.List.{length-append, length-map, get_or_append_left, get_or-append-add, get_or_default}
use Rattle.std.proofs.lemmas.List.Elements.{Contains-get_or, Contains-append_left, Contains-append_right, Contains-append_cases}
use Rattle.cqa_value.specs.declared.value.Value.{Value}
use Rattle.cqa_value.proofs.Words.{Contains-map, Contains-from_map}
use Rattle.cqa_model.specs.declared.query.Query.{Query}
use Rattle.cqa_model.specs.Query.{atom_key, rows_of}
use Rattle.cqa_model.specs.Repairs.{SharesKey}
use Rattle.cqa_model.specs.Blocks.{AreBlocks}
use Rattle.cqa_model.specs.Plan.{Placed}
use Rattle.cqa_model.proofs.Classic.{mem-nil, mem-cases}
use Rattle.cqa_model.proofs.Reification.{placed}
use Rattle.weak_pairs.specs.Pairs.{IsStoredRow, InBlock}
use Rattle.weak_pairs.specs.Peeling.{IsBlockNumber, In}
use Rattle.weak_pairs.specs.Numbering.{AreNumbered}
use Rattle.weak_pairs.specs.Outcomes.{AreStarts, IsSplit}
use Rattle.weak_pairs.specs.Starts.{ends_from, starts_from}
use Rattle.pair_answers.specs.Numbers.{placed_in, numbered, place_of}
use Rattle.weak_pairs.proofs.Begins.{flat, ends-length, start-next, start-within, start-rises, at-block, block-at, ends-append, ends-map, flat-append, flat-map}

some-in : (bs : List (List (List Value))) (x : List Value) (b : List (List Value)) → Contains bs b → Contains b x → Contains (flat bs) x
some-in [] x b m n = absurd (mem-nil b m)
some-in (c ∷ bs) x b m n = elim (mem-cases b c bs m) [
  | inl e ↦ Contains-append_left c (flat bs) x (subst (λ d. Contains d x) (sym e) n)
  | inr l ↦ Contains-append_right c (flat bs) x (some-in bs x b l n)
]

module _ (q : Query) (tables : List (List (List Value))) (two : length q.atoms ≡ 2) (xs ys : List (List (List Value)))
    (hx : AreBlocks (atom_key q 0) (rows_of q tables 0) xs) (hy : AreBlocks (atom_key q 1) (rows_of q tables 1) ys) where
  abbrev pub mx : List (List Placed)
  mx = map (λ b. map (placed 0) b) xs

  abbrev pub my : List (List Placed)
  my = map (λ b. map (placed 1) b) ys

  abbrev pub blocks : List (List Placed)
  blocks = mx ++ my

  abbrev pub start : List ℕ
  start = starts_from 0 blocks

  abbrev pub place : ℕ → Placed
  place = place_of q tables

  flat-left : flat mx ≡ placed_in 0 (rows_of q tables 0)
  flat-left = flat-map (placed 0) xs ∙ ap (λ z. map (placed 0) z) hx.joined

  flat-right : flat my ≡ placed_in 1 (rows_of q tables 1)
  flat-right = flat-map (placed 1) ys ∙ ap (λ z. map (placed 1) z) hy.joined

  all-is : flat blocks ≡ numbered q tables
  all-is = flat-append mx my ∙ ap (λ z. z ++ flat my) flat-left ∙ ap (λ z. placed_in 0 (rows_of q tables 0) ++ z) flat-right

  pub starts-are : 0 ∷ (ends_from 0 xs ++ ends_from (length (rows_of q tables 0)) ys) ≡ start
  starts-are =
      let long : length (flat mx) ≡ length (rows_of q tables 0) = ap length flat-left ∙ length-map (rows_of q tables 0) (placed 0) in
      ap (λ z. 0 ∷ z) (ap (λ z. ends_from 0 xs ++ z) (sym (ends-map (placed 1) (length (rows_of q tables 0)) ys)) ∙
      ap (λ z. z ++ ends_from (length (rows_of q tables 0)) my) (sym (ends-map (placed 0) 0 xs)) ∙
      ap (λ z. ends_from 0 mx ++ ends_from z my) (let e : length (rows_of q tables 0) ≡ 0 + length (flat mx) = omega (arith, long) in e) ∙ sym (ends-append 0 mx my))

  inside : (v : ℕ) → IsBlockNumber start v → v < length blocks
  inside v l = let e = ends-length 0 blocks in omega (arith, l, e)

  next : (v : ℕ) → IsBlockNumber start v → slice_index start (v + 1) ≡ slice_index start v + length (get_or blocks v [])
  next v l = let e : v + 1 ≡ suc v = omega arith in ap (λ z. slice_index start z) e ∙ start-next 0 blocks v (inside v l)

  left-block : (v : ℕ) → v < length xs → get_or blocks v [] ≡ map (placed 0) (get_or xs v [])
  left-block v l = get_or_append_left mx my [] v (let e = length-map xs (λ b. map (placed 0) b) in omega (arith, e, l)) ∙ get_or-map (λ b. map (placed 0) b) xs v []

  right-block : (v : ℕ) → get_or blocks (length xs + v) [] ≡ map (placed 1) (get_or ys v [])
  right-block v = ap (λ z. get_or blocks (z + v) []) (sym (length-map xs (λ b. map (placed 0) b))) ∙ get_or-append-add mx my v [] ∙ get_or-map (λ b. map (placed 1) b) ys v []

  long : length blocks ≡ length xs + length ys
  long = let a = length-append mx my in let b = length-map xs (λ b. map (placed 0) b) in let c = length-map ys (λ b. map (placed 1) b) in omega (arith, a, b, c)

  -- a block is one of the first atom or of the second
  abbrev IsOf : ℕ → List (List (List Value)) → List (List Value) → List Placed → Type 0
  IsOf F bs c b = Contains bs c × (b ≡ map (placed F) c)

  pub block-of : (v : ℕ) → v < length blocks →
      ((v < length xs) × IsOf 0 xs (get_or xs v []) (get_or blocks v [])) ⊎ ((w : ℕ) × (v ≡ length xs + w) × (w < length ys) × IsOf 1 ys (get_or ys w []) (get_or blocks v []))
  block-of v l = go (dec_lt v (length xs))
    where
      go : Dec (v < length xs) → ((v < length xs) × IsOf 0 xs (get_or xs v []) (get_or blocks v [])) ⊎ ((w : ℕ) × (v ≡ length xs + w) × (w < length ys) × IsOf 1 ys (get_or ys w []) (get_or blocks v []))
      go (yes k) = inl (k, (Contains-get_or xs v [] k, left-block v k))
      go (no f) =
          let e : v ≡ length xs + (v - length xs) = omega (arith, f) in
          let w : v - length xs < length ys = let h = long in omega (arith, l, f, h) in
          inr (v - length xs, e, w, (Contains-get_or ys (v - length xs) [] w, ap (λ z. get_or blocks z []) e ∙ right-block (v - length xs)))

  some : (v : ℕ) → v < length blocks → 0 < length (get_or blocks v [])
  some v l = elim (block-of v l) [
    | inl h ↦ let e = ap length h.1.1 ∙ length-map (get_or xs v []) (placed 0) in let k = hx.some (get_or xs v []) h.1.0 in omega (arith, e, k)
    | inr h ↦ let e = ap length h.3.1 ∙ length-map (get_or ys h.0 []) (placed 1) in let k = hy.some (get_or ys h.0 []) h.3.0 in omega (arith, e, k)
  ]

  -- the row of a number is in its block
  pub member : (v i : ℕ) → IsBlockNumber start v → In start v i → Contains (get_or blocks v []) (place i)
  member v i l m =
      let n = next v l in
      let low = m.0 in
      let high = m.1 in
      let k : i - slice_index start v < length (get_or blocks v []) = omega (arith, n, low, high) in
      let e : 0 + i ≡ slice_index start v + (i - slice_index start v) = omega (arith, low) in
      subst (λ z. Contains (get_or blocks v []) z)
      (sym (at-block 0 blocks v (i - slice_index start v) i (placed 0 []) (inside v l) k e) ∙ ap (λ z. get_or z i (placed 0 [])) all-is)
      (Contains-get_or (get_or blocks v []) (i - slice_index start v) (placed 0 []) k)

  -- rows of one atom's block
  together : (F : ℕ) (bs : List (List (List Value))) → AreBlocks (atom_key q F) (rows_of q tables F) bs → (c : List (List Value)) (b : List Placed) → IsOf F bs c b →
      (t u : Placed) → Contains b t → Contains b u → InBlock q tables t u
  together F bs h c b of t u mt mu = go (Contains-from_map (placed F) c t (subst (λ z. Contains z t) of.1 mt)) (Contains-from_map (placed F) c u (subst (λ z. Contains z u) of.1 mu))
    where
      go : (x : List Value) × Contains c x × (placed F x ≡ t) → (y : List Value) × Contains c y × (placed F y ≡ u) → InBlock q tables t u
      go (x, hx, ex) (y, hy, ey) = subst (λ z. InBlock q tables z u) ex (subst (λ z. InBlock q tables (placed F x) z) ey
          (refl, subst (λ z. Contains z y) h.joined (some-in bs y c of.0 hy), h.alike c of.0 x y hx hy))

  alike : (v i j : ℕ) → IsBlockNumber start v → In start v i → In start v j → InBlock q tables (place i) (place j)
  alike v i j l mi mj = elim (block-of v (inside v l)) [
    | inl h ↦ together 0 xs hx (get_or xs v []) (get_or blocks v []) h.1 (place i) (place j) (member v i l mi) (member v j l mj)
    | inr h ↦ together 1 ys hy (get_or ys h.0 []) (get_or blocks v []) h.3 (place i) (place j) (member v i l mi) (member v j l mj)
  ]

  -- rows of two blocks of one atom
  parted : (F : ℕ) (bs : List (List (List Value))) → AreBlocks (atom_key q F) (rows_of q tables F) bs → (u v : ℕ) → u < v → v < length bs → (t s : Placed) →
      Contains (map (placed F) (get_or bs u [])) t → Contains (map (placed F) (get_or bs v [])) s → InBlock q tables t s → ⊥
  parted F bs h u v l k t s mt ms b = go (Contains-from_map (placed F) (get_or bs u []) t mt) (Contains-from_map (placed F) (get_or bs v []) s ms)
    where
      go : (x : List Value) × Contains (get_or bs u []) x × (placed F x ≡ t) → (y : List Value) × Contains (get_or bs v []) y × (placed F y ≡ s) → ⊥
      go (x, hx, ex) (y, hy, ey) = h.apart u v l k x y hx hy
          (subst (λ z. SharesKey (atom_key q z.atom) z.row y) (sym ex) (subst (λ z. SharesKey (atom_key q t.atom) t.row z.row) (sym ey) b.2))

  atom-is : (F : ℕ) (c : List (List Value)) (t : Placed) → Contains (map (placed F) c) t → t.atom ≡ F
  atom-is F c t m = let h = Contains-from_map (placed F) c t m in ap (λ z. z.atom) (sym h.2)

  apart : (u v : ℕ) → u < v → v < length blocks → (t s : Placed) → Contains (get_or blocks u []) t → Contains (get_or blocks v []) s → InBlock q tables t s → ⊥
  apart u v l k t s mt ms b = elim (block-of v k) [
    | inl h ↦
        let lu : u < length xs = (let w = h.0 in omega (arith, l, w)) in
        parted 0 xs hx u v l h.0 t s (subst (λ z. Contains z t) (left-block u lu) mt) (subst (λ z. Contains z s) h.1.1 ms) b
    | inr h ↦ elim (block-of u (omega (arith, l, k))) [
      | inl g ↦
          let a = atom-is 0 (get_or xs u []) t (subst (λ z. Contains z t) g.1.1 mt) in
          let c = atom-is 1 (get_or ys h.0 []) s (subst (λ z. Contains z s) h.3.1 ms) in
          let e = b.0 in
          omega (arith, a, c, e)
      | inr g ↦
          let less : g.0 < h.0 = (let p = g.1 in let r = h.1 in omega (arith, p, r, l)) in
          parted 1 ys hy g.0 h.0 less h.2 t s (subst (λ z. Contains z t) g.3.1 mt) (subst (λ z. Contains z s) h.3.1 ms) b
    ]
  ]

  turned : (t s : Placed) → Contains (rows_of q tables t.atom) t.row → InBlock q tables t s → InBlock q tables s t
  turned t s m b = (sym b.0, subst (λ z. Contains (rows_of q tables z) t.row) (sym b.0) m, subst (λ z. SharesKey (atom_key q z) s.row t.row) (sym b.0) (λ p k. sym (b.2 p k)))

  found : (i : ℕ) → i < length (numbered q tables) → (v : ℕ) × IsBlockNumber start v × In start v i
  found i l =
      let n = ap length all-is in
      let h = block-at 0 blocks i (omega (arith, n, l)) in
      let e : suc h.0 ≡ h.0 + 1 = omega arith in
      let w = h.1 in
      let len = ends-length 0 blocks in
      let low = h.2 in
      let high : 0 + i < slice_index start (h.0 + 1) = subst (λ z. 0 + i < slice_index start z) e h.3 in
      (h.0, omega (arith, w, len), (omega (arith, low), omega (arith, high)))

  stored-row : (t : Placed) → Contains (numbered q tables) t → IsStoredRow q tables t
  stored-row t m = elim (Contains-append_cases (placed_in 0 (rows_of q tables 0)) (placed_in 1 (rows_of q tables 1)) t m) [
    | inl n ↦ of 0 (omega (arith, two)) (Contains-from_map (placed 0) (rows_of q tables 0) t n)
    | inr n ↦ of 1 (omega (arith, two)) (Contains-from_map (placed 1) (rows_of q tables 1) t n)
  ]
    where
      of : (F : ℕ) → F < length q.atoms → (x : List Value) × Contains (rows_of q tables F) x × (placed F x ≡ t) → IsStoredRow q tables t
      of F l (x, h, e) = subst (λ z. IsStoredRow q tables z) e (l, h)

  row-number : (t : Placed) → IsStoredRow q tables t → Contains (numbered q tables) t
  row-number t (l, m) = go t.atom t.row l m
    where
      go : (F : ℕ) (x : List Value) → F < length q.atoms → Contains (rows_of q tables F) x → Contains (numbered q tables) (placed F x)
      go zero x l m = Contains-append_left (placed_in 0 (rows_of q tables 0)) (placed_in 1 (rows_of q tables 1)) (placed 0 x) (Contains-map (placed 0) (rows_of q tables 0) x m)
      go (suc zero) x l m = Contains-append_right (placed_in 0 (rows_of q tables 0)) (placed_in 1 (rows_of q tables 1)) (placed 1 x) (Contains-map (placed 1) (rows_of q tables 1) x m)
      go (suc (suc F)) x l m = absurd (omega (arith, l, two))

  pub numbering : AreNumbered q tables place (length (numbered q tables)) start
  numbering = record {
    rows = λ t s. let m = row-number t s in (m.0, m.1, get_or_default (numbered q tables) m.0 (placed 0 []) t m.1 ∙ m.2);
    stored = λ i l. stored-row (place i) (Contains-get_or (numbered q tables) i (placed 0 []) l);
    in_blocks = found;
    within = within;
    alike = alike;
    one = λ v i j l mi lj b. one v i j l mi (found j lj) (stored-row (place i) (Contains-get_or (numbered q tables) i (placed 0 []) (within v i l mi))).1 b;
  }
    where
      within : (v i : ℕ) → IsBlockNumber start v → In start v i → i < length (numbered q tables)
      within v i l m =
          let w = start-within 0 blocks (v + 1) (let k = inside v l in omega (arith, k)) in
          let n = ap length all-is in
          let high = m.1 in
          omega (arith, w, n, high)

      one : (v i j : ℕ) → IsBlockNumber start v → In start v i → (w : ℕ) × IsBlockNumber start w × In start w j → Contains (rows_of q tables (place i).atom) (place i).row → InBlock q tables (place i) (place j) → In start v j
      one v i j l mi (w, lw, mj) st b = go (dec_lt v w) (dec_lt w v)
        where
          go : Dec (v < w) → Dec (w < v) → In start v j
          go (yes k) d = absurd (apart v w k (inside w lw) (place i) (place j) (member v i l mi) (member w j lw mj) b)
          go (no f) (yes k) = absurd (apart w v k (inside v l) (place j) (place i) (member w j lw mj) (member v i l mi) (turned (place i) (place j) st b))
          go (no f) (no g) = let e : w ≡ v = omega (arith, f, g) in subst (λ z. In start z j) e mj

  pub starts : AreStarts start (length (numbered q tables))
  starts = record {
    rising = λ u v l k. start-rises 0 blocks some u v l (let e = ends-length 0 blocks in omega (arith, k, e));
    within = λ v l. let w = start-within 0 blocks (v + 1) (let k = inside v l in omega (arith, k)) in let n = ap length all-is in omega (arith, w, n);
  }

  pub split : IsSplit place start (length xs)
  split v i l m = elim (block-of v (inside v l)) [
    | inl h ↦ (
      λ e. atom-is 0 (get_or xs v []) (place i) (subst (λ z. Contains z (place i)) h.1.1 (member v i l m)),
      λ e. lt-ltb v (length xs) h.0,
    )
    | inr h ↦ (
      λ e. absurd (let k = ltb-true v (length xs) e in let p = h.1 in omega (arith, k, p)),
      λ e. absurd (let a = atom-is 1 (get_or ys h.0 []) (place i) (subst (λ z. Contains z (place i)) h.3.1 (member v i l m)) in omega (arith, a, e)),
    )
  ]
