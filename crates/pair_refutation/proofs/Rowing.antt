-- The rows of blocks that follow each other, and their edges.
use Rattle.std.proofs.Common.{◌≡◌, ◌≢◌, ℕ, zero, suc, ◌+◌, ◌-◌, ◌<◌, ◌≤◌, ◌⊎◌, inl, inr, List, length, map, ap, sym, ◌∙◌, subst, arith, Contains, slice_index}
use native.Mathlib.Decide.{ℕ_discrete}
use Rattle.std.proofs.lemmas.List.{get_or_default, length-map, get_or-map}
use Rattle.std.proofs.lemmas.List.Elements.{Contains-get_or}
use Rattle.weak_pairs.specs.Peeling.{IsBlockNumber, In}
use Rattle.weak_pairs.specs.Starts.{starts_from}
use Rattle.weak_pairs.proofs.Begins.{ends-length, start-next, start-within, start-rises, at-block, block-at}
use Rattle.pair_refutation.specs.declared.graph.Pair.{Pair}
use Rattle.pair_refutation.specs.Graph.{Meet, AreAdjacent, IsGraph, all_of, block_at}
use Rattle.pair_refutation.specs.Edges.{AreVarEdges, AreRowEdges, IsTwoEnded}
use Rattle.pair_refutation.proofs.Edging.{dec-adjacent}

-- ---- rows of blocks that follow each other

module _ (vars : ℕ) (blocks : List (List ℕ)) (pairs : List Pair) (g : IsGraph vars blocks pairs) where
  abbrev first : List ℕ
  first = starts_from 0 blocks

  abbrev var : List ℕ
  var = all_of blocks

  pub block-count : (v : ℕ) → IsBlockNumber first v → v < length blocks
  block-count v b = let e = ends-length 0 blocks in omega (arith, b, e)

  pub block-is : (v : ℕ) → v < length blocks → IsBlockNumber first v
  block-is v l = let e = ends-length 0 blocks in omega (arith, l, e)

  pub row-rising : (u v : ℕ) → u < v → v < length first → slice_index first u < slice_index first v
  row-rising u v l b = start-rises 0 blocks g.some u v l (let e = ends-length 0 blocks in omega (arith, b, e))

  pub row-within : (v : ℕ) → IsBlockNumber first v → slice_index first (v + 1) ≤ length var
  row-within v b = let w = start-within 0 blocks (v + 1) (let c = block-count v b in omega (arith, c)) in omega (arith, w)

  -- the variable of a row of a block is one of the block
  pub row-var : (v i : ℕ) → IsBlockNumber first v → In first v i → Contains (block_at blocks v) (slice_index var i)
  row-var v i b h =
      let lv = block-count v b in
      let n = start-next 0 blocks v lv in
      let low : slice_index first v ≤ i = h.0 in
      let high : i < slice_index first (v + 1) = h.1 in
      let s : v + 1 ≡ suc v = omega arith in
      let n2 : slice_index first (v + 1) ≡ slice_index first v + length (block_at blocks v) = ap (λ z. slice_index first z) s ∙ n in
      let k : i - slice_index first v < length (block_at blocks v) = omega (arith, low, high, n2) in
      let e = at-block 0 blocks v (i - slice_index first v) i 0 lv k (omega (arith, low)) in
      subst (λ z. Contains (block_at blocks v) z) (sym e) (Contains-get_or (block_at blocks v) (i - slice_index first v) 0 k)

  -- and each variable of a block is that of one of its rows
  pub var-row : (v x : ℕ) → v < length blocks → Contains (block_at blocks v) x → (i : ℕ) × In first v i × (slice_index var i ≡ x)
  var-row v x lv (k, lk, e) =
      let n = start-next 0 blocks v lv in
      let s : v + 1 ≡ suc v = omega arith in
      let n2 : slice_index first (v + 1) ≡ slice_index first v + length (block_at blocks v) = ap (λ z. slice_index first z) s ∙ n in
      let r = at-block 0 blocks v k (slice_index first v + k) 0 lv lk (omega arith) in
      (slice_index first v + k, (omega arith, omega (arith, n2, lk)), r ∙ (get_or_default (block_at blocks v) k 0 x lk ∙ e))

  -- each row is one of a block, and its variable one of the formula's
  pub row-block : (i : ℕ) → i < length var → (v : ℕ) × IsBlockNumber first v × In first v i
  row-block i l =
      let b = block-at 0 blocks i l in
      let low = b.2 in
      let high = b.3 in
      let e : suc b.0 ≡ b.0 + 1 = omega arith in
      (b.0, block-is b.0 b.1, (omega (arith, low), subst (λ z. i < slice_index first z) e (omega (arith, high))))

  pub var-small : (x : ℕ) → Contains var x → x ≤ vars
  var-small x (i, l, e) =
      let v = row-block i l in
      let d : slice_index var i ≡ x = get_or_default var i 0 x l ∙ e in
      subst (λ z. z ≤ vars) d (g.small v.0 (slice_index var i) (block-count v.0 v.1) (row-var v.0 i v.1 v.2)).1

  -- there are no more blocks than rows
  pub blocks-few : length blocks ≤ length var
  blocks-few = let r = rises (length blocks) (omega arith) in let w = start-within 0 blocks (length blocks) (omega arith) in omega (arith, r, w)
    where
      rises : (v : ℕ) → v ≤ length blocks → v ≤ slice_index first v
      rises zero l = omega arith
      rises (suc v) l = let h = rises v (omega (arith, l)) in let s = start-rises 0 blocks g.some v (suc v) (omega arith) l in omega (arith, h, s)

  module _ (edge of_var : List ℕ) (ve : AreVarEdges pairs vars of_var) (is : edge ≡ map (λ x. slice_index of_var x) var) where
    pub edge-size : length edge ≡ length var
    edge-size = ap (λ (z : List ℕ). length z) is ∙ length-map var (λ x. slice_index of_var x)

    edge-at : (i : ℕ) → i < length edge → slice_index edge i ≡ slice_index of_var (slice_index var i)
    edge-at i l = ap (λ z. slice_index z i) is ∙ get_or-map (λ x. slice_index of_var x) var i 0 0 (let e = edge-size in omega (arith, l, e))

    -- two variables of different blocks with one edge meet
    meets : (u v x z : ℕ) → u < length blocks → v < length blocks → Contains (block_at blocks u) x → Contains (block_at blocks v) z → u ≢ v → slice_index of_var x ≡ slice_index of_var z →
        Dec ((y : ℕ) × AreAdjacent pairs x y) → Dec ((y : ℕ) × AreAdjacent pairs z y) → AreAdjacent pairs x z
    meets u v x z lu lv mx mz n e (no nx) (no nz) =
        absurd (n (g.one u v x z lu lv mx mz (inl (sym (ve.own x (g.small u x lu mx).1 (λ y a. nx (y, a))) ∙ (e ∙ ve.own z (g.small v z lv mz).1 (λ y a. nz (y, a)))))))
    meets u v x z lu lv mx mz n e (yes (y, inl m)) (no nz) =
        absurd (nz (y, inl (subst (λ w. Meet pairs w y) (sym (ve.same x y m) ∙ (e ∙ ve.own z (g.small v z lv mz).1 (λ y2 a. nz (y2, a)))) (ve.meets x y m))))
    meets u v x z lu lv mx mz n e (yes (y, inr m)) (no nz) =
        absurd (nz (x, inl (subst (λ w. Meet pairs w x) (e ∙ ve.own z (g.small v z lv mz).1 (λ y2 a. nz (y2, a))) (ve.meets y x m))))
    meets u v x z lu lv mx mz n e (no nx) (yes (y, inl m)) =
        absurd (nx (y, inl (subst (λ w. Meet pairs w y) (sym (ve.same z y m) ∙ (sym e ∙ ve.own x (g.small u x lu mx).1 (λ y2 a. nx (y2, a)))) (ve.meets z y m))))
    meets u v x z lu lv mx mz n e (no nx) (yes (y, inr m)) =
        absurd (nx (z, inl (subst (λ w. Meet pairs w z) (sym e ∙ ve.own x (g.small u x lu mx).1 (λ y2 a. nx (y2, a))) (ve.meets y z m))))
    meets u v x z lu lv mx mz n e (yes (y, inl m)) (yes (t, inl k)) =
        let same : slice_index of_var y ≡ slice_index of_var t = sym (ve.same x y m) ∙ (e ∙ ve.same z t k) in
        let et : Meet pairs (slice_index of_var y) t = subst (λ w. Meet pairs w t) (sym same) (ve.meets z t k) in
        absurd (n (g.one u v x z lu lv mx mz (inr (inl (t, g.paired.square (slice_index of_var y) y x t (ve.meets x y m) m et, k)))))
    meets u v x z lu lv mx mz n e (yes (y, inl m)) (yes (t, inr k)) =
        let same : slice_index of_var y ≡ slice_index of_var z = sym (ve.same x y m) ∙ e in
        let ez : Meet pairs (slice_index of_var y) z = subst (λ w. Meet pairs w z) (sym same) (ve.meets t z k) in
        inl (g.paired.square (slice_index of_var y) y x z (ve.meets x y m) m ez)
    meets u v x z lu lv mx mz n e (yes (y, inr m)) (yes (t, inl k)) =
        let same : slice_index of_var t ≡ slice_index of_var x = sym (ve.same z t k) ∙ sym e in
        let ex : Meet pairs (slice_index of_var t) x = subst (λ w. Meet pairs w x) (sym same) (ve.meets y x m) in
        inr (g.paired.square (slice_index of_var t) t z x (ve.meets z t k) k ex)
    meets u v x z lu lv mx mz n e (yes (y, inr m)) (yes (t, inr k)) =
        absurd (n (g.one u v x z lu lv mx mz (inr (inr (slice_index of_var x, ve.meets y x m, subst (λ w. Meet pairs w z) (sym e) (ve.meets t z k))))))

    row-small : (v i : ℕ) → IsBlockNumber first v → In first v i → i < length edge
    row-small v i b h = let w = row-within v b in let k : i < slice_index first (v + 1) = h.1 in let s = edge-size in omega (arith, w, k, s)

    same : (x y : ℕ) → AreAdjacent pairs x y → slice_index of_var x ≡ slice_index of_var y
    same x y (inl m) = ve.same x y m
    same x y (inr m) = sym (ve.same y x m)

    of-list : (xs : List ℕ) (i : ℕ) → i < length xs → ((x : ℕ) → Contains xs x → x ≤ vars) → slice_index xs i ≤ vars
    of-list xs i l h = h (slice_index xs i) (Contains-get_or xs i 0 l)

    pub row-edges : ((x : ℕ) → Contains var x → x ≤ vars) → ((x : ℕ) → x ≤ vars → slice_index of_var x ≤ vars) → AreRowEdges pairs vars first var edge
    row-edges all low = record {
      size = edge-size;
      small = λ i l. let e = edge-at i l in let s = low (slice_index var i) (of-list var i (let k = edge-size in omega (arith, l, k)) all) in omega (arith, e, s);
      same = λ i j li lj a. edge-at i li ∙ (same (slice_index var i) (slice_index var j) a ∙ sym (edge-at j lj));
      meets = λ u v i j bu bv n hi hj e. meets u v (slice_index var i) (slice_index var j) (block-count u bu) (block-count v bv) (row-var u i bu hi) (row-var v j bv hj) n
          (sym (edge-at i (row-small u i bu hi)) ∙ (e ∙ edge-at j (row-small v j bv hj))) (dec-adjacent pairs (slice_index var i)) (dec-adjacent pairs (slice_index var j));
    }

  -- an edge of three blocks would be a triangle
  pub two-ended : (edge : List ℕ) → AreRowEdges pairs vars first var edge → IsTwoEnded first edge
  two-ended edge re u v w i j k bu bv bw hi hj hk ik jk n = go (ℕ_discrete w u) (ℕ_discrete w v)
    where
      none : (x y z : ℕ) → AreAdjacent pairs x y → AreAdjacent pairs x z → AreAdjacent pairs y z → ⊥
      none x y z (inl xy) (inl xz) (inl yz) = g.paired.sides y z x yz xy
      none x y z (inl xy) (inl xz) (inr zy) = g.paired.sides z y x zy xz
      none x y z (inl xy) (inr zx) yz = g.paired.sides x y z xy zx
      none x y z (inr yx) (inl xz) yz = g.paired.sides x z y xz yx
      none x y z (inr yx) (inr zx) (inl yz) = g.paired.sides z x y zx yz
      none x y z (inr yx) (inr zx) (inr zy) = g.paired.sides y x z yx zy

      go : Dec (w ≡ u) → Dec (w ≡ v) → (w ≡ u) ⊎ (w ≡ v)
      go (yes d) q = inl d
      go (no a) (yes d) = inr d
      go (no a) (no b) = absurd (none (slice_index var i) (slice_index var j) (slice_index var k) (re.meets u v i j bu bv n hi hj (ik ∙ sym jk)) (re.meets u w i k bu bw (λ d. a (sym d)) hi hk ik) (re.meets v w j k bv bw (λ d. b (sym d)) hj hk jk))
