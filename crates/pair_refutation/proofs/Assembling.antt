-- What is read of a formula is its graph, and what is chosen in it satisfies the formula.
use Rattle.std.proofs.Common.{◌≡◌, ℕ, zero, suc, ◌+◌, ◌<◌, ◌≤◌, ◌⊎◌, inl, inr, List, [], ◌∷◌, length, map, refl, ap, sym, ◌∙◌, subst, arith, Contains, Option, Some, None, Bool, true, false, true≢false, slice_index}
use native.Mathlib.Decide.{ℕ_discrete}
use Rattle.std.proofs.lemmas.List.{get_or_default}
use Rattle.std.proofs.lemmas.List.Elements.{Contains-get_or, Contains-append_left, Contains-append_right, Contains-append_cases}
use Rattle.std.proofs.lemmas.Bool.{cases_Bool}
use Rattle.cqa_value.proofs.Words.{Contains-map, Contains-from_map, yes_of, of_yes, is_yes, dec_one_below}
use Rattle.cnf_form.specs.declared.formula.Lit.{Lit}
use Rattle.cnf_form.specs.declared.formula.Cnf.{Cnf}
use Rattle.cnf_form.specs.Literals.{literals, Satisfies, SatisfiesAll}
use Rattle.cqa_model.proofs.Classic.{mem-head, mem-nil, mem-cases}
use Rattle.weak_pairs.specs.Peeling.{IsBlockNumber, In, AreChosen, AreBlocked, IsForced, row_of}
use Rattle.weak_pairs.specs.Layout.{AreRows}
use Rattle.weak_pairs.specs.Starts.{starts_from}
use Rattle.weak_pairs.proofs.Begins.{ends-length}
use Rattle.pair_refutation.specs.declared.graph.Pair.{Pair}
use Rattle.pair_refutation.specs.declared.graph.Graph.{Graph}
use Rattle.pair_refutation.specs.Graph.{positive, negative, not_both, graph_clauses, Meet, AreAdjacent, all_of, block_at}
use Rattle.pair_refutation.specs.Edges.{AreVarEdges, AreRowEdges, IsTwoEnded}
use Rattle.pair_refutation.specs.Formulas.{IsReadTo, IsUnsatisfiable}
use Rattle.pair_refutation.proofs.Edging.{dec-adjacent}
use Rattle.pair_refutation.proofs.Rowing.{var-small, row-rising, row-within, row-var, var-row, block-is, block-count, row-edges, two-ended}

module _ (cnf : Cnf) (g : Graph) (r : IsReadTo cnf g) where
  abbrev pairs : List Pair
  pairs = g.pairs.items

  low : (of_var : List ℕ) → AreVarEdges pairs cnf.vars of_var → (x : ℕ) → x ≤ cnf.vars → slice_index of_var x ≤ cnf.vars
  low of_var ve x l = go (dec-adjacent pairs x)
    where
      go : Dec ((y : ℕ) × AreAdjacent pairs x y) → slice_index of_var x ≤ cnf.vars
      go (no n) = let e = ve.own x l (λ y a. n (y, a)) in omega (arith, e, l)
      go (yes (y, inl m)) = let e = ve.same x y m in let k = r.graph.paired.rises (slice_index of_var y) y (ve.meets x y m) in let s = r.graph.paired.small x y m in omega (arith, e, k, s)
      go (yes (y, inr m)) = let k = r.graph.paired.rises (slice_index of_var x) x (ve.meets y x m) in omega (arith, k, l)

  at-start : AreRowEdges pairs cnf.vars (starts_from 0 r.blocks) (all_of r.blocks) g.edge.items
  at-start = row-edges cnf.vars r.blocks pairs r.graph g.edge.items r.edges.0 r.edges.1 (subst (λ z. g.edge.items ≡ map (λ x. slice_index r.edges.0 x) z) r.var r.edges.2) (var-small cnf.vars r.blocks pairs r.graph) (low r.edges.0 r.edges.1)

  pub edges-are : AreRowEdges pairs cnf.vars g.start.items g.var.items g.edge.items
  edges-are = subst (λ z. AreRowEdges pairs cnf.vars z g.var.items g.edge.items) (sym r.start) (subst (λ z. AreRowEdges pairs cnf.vars (starts_from 0 r.blocks) z g.edge.items) (sym r.var) at-start)

  pub rows-are : AreRows g.start.items g.edge.items (cnf.vars + 1)
  rows-are = subst (λ z. AreRows z g.edge.items (cnf.vars + 1)) (sym r.start) (record {
    rising = row-rising cnf.vars r.blocks pairs r.graph;
    within = λ v b. let w = row-within cnf.vars r.blocks pairs r.graph v b in let s = at-start.size in omega (arith, w, s);
    small = at-start.small;
  })

  pub ends-are : IsTwoEnded g.start.items g.edge.items
  ends-are = subst (λ z. IsTwoEnded z g.edge.items) (sym r.start) (two-ended cnf.vars r.blocks pairs r.graph g.edge.items at-start)

  -- ---- rows and clauses

  abbrev start : List ℕ
  start = g.start.items

  abbrev var : List ℕ
  var = g.var.items

  to-first : (v : ℕ) → IsBlockNumber start v → IsBlockNumber (starts_from 0 r.blocks) v
  to-first v b = subst (λ z. IsBlockNumber z v) r.start b

  pub count-is : g.blocks ≡ length r.blocks
  count-is = let c = r.count in let l = ap (λ (z : List ℕ). length z) r.start in let e = ends-length 0 r.blocks in omega (arith, c, l, e)

  pub row-of : (v x : ℕ) → v < length r.blocks → Contains (block_at r.blocks v) x → (i : ℕ) × IsBlockNumber start v × In start v i × (slice_index var i ≡ x)
  row-of v x l m =
      let h = var-row cnf.vars r.blocks pairs r.graph v x l m in
      (h.0, subst (λ z. IsBlockNumber z v) (sym r.start) (block-is cnf.vars r.blocks pairs r.graph v l), subst (λ z. In z v h.0) (sym r.start) h.1, ap (λ z. slice_index z h.0) r.var ∙ h.2)

  pub var-in : (v i : ℕ) → IsBlockNumber start v → In start v i → (v < length r.blocks) × Contains (block_at r.blocks v) (slice_index var i)
  var-in v i b h =
      let m = row-var cnf.vars r.blocks pairs r.graph v i (to-first v b) (subst (λ z. In z v i) r.start h) in
      (block-count cnf.vars r.blocks pairs r.graph v (to-first v b), subst (λ z. Contains (block_at r.blocks v) (slice_index z i)) (sym r.var) m)

  pub edge-there : (v i : ℕ) → IsBlockNumber start v → In start v i → i < length g.edge.items
  edge-there v i b h = let w = rows-are.within v b in let k : i < slice_index start (v + 1) = h.1 in omega (arith, w, k)

  pub listed : (x y : ℕ) → AreAdjacent pairs x y → (v i : ℕ) × IsBlockNumber start v × In start v i × (slice_index var i ≡ x)
  listed x y a = let l = r.graph.listed x y a in let h = row-of l.0 x l.1 l.2 in (l.0, h.0, h.1, h.2, h.3)

  pub apart : (v i j : ℕ) → IsBlockNumber start v → In start v i → In start v j → AreAdjacent pairs (slice_index var i) (slice_index var j) → ⊥
  apart v i j b hi hj a = let m = var-in v i b hi in r.graph.apart v (slice_index var i) (slice_index var j) m.0 m.1 (var-in v j b hj).1 a

  -- ---- assignments

  module _ (t : ℕ → Bool) (sat : SatisfiesAll t (literals cnf.clauses)) where
    here : SatisfiesAll t (graph_clauses r.blocks pairs)
    here = subst (λ z. SatisfiesAll t z) r.are sat

    true-row : (v : ℕ) → IsBlockNumber start v → (i : ℕ) × In start v i × (t (slice_index var i) ≡ true)
    true-row v b = of (here (map positive (block_at r.blocks v)) (Contains-append_left (map (map positive) r.blocks) (map not_both pairs) (map positive (block_at r.blocks v))
        (Contains-map (map positive) r.blocks (block_at r.blocks v) (Contains-get_or r.blocks v [] l))))
      where
        l : v < length r.blocks
        l = block-count cnf.vars r.blocks pairs r.graph v (to-first v b)

        of : ((m : Lit) × Contains (map positive (block_at r.blocks v)) m × (t m.var ≡ m.positive)) → (i : ℕ) × In start v i × (t (slice_index var i) ≡ true)
        of (m, k, e) =
            let p = Contains-from_map positive (block_at r.blocks v) m k in
            let i = row-of v p.0 l p.1 in
            (i.0, i.2, ap t i.3 ∙ subst (λ (z : Lit). t z.var ≡ z.positive) (sym p.2) e)

    one-false : (x y : ℕ) → Meet pairs x y → t x ≡ true → t y ≡ true → ⊥
    one-false x y m tx ty = of (here (not_both (record { left = x; right = y })) (Contains-append_right (map (map positive) r.blocks) (map not_both pairs) (not_both (record { left = x; right = y })) (Contains-map not_both pairs (record { left = x; right = y }) m)))
      where
        of : ((l : Lit) × Contains (negative x ∷ negative y ∷ []) l × (t l.var ≡ l.positive)) → ⊥
        of (l, k, e) = elim (mem-cases l (negative x) (negative y ∷ []) k) [
          | inl d ↦ true≢false (sym tx ∙ subst (λ (z : Lit). t z.var ≡ z.positive) (sym d) e)
          | inr k2 ↦ elim (mem-cases l (negative y) [] k2) [
            | inl d ↦ true≢false (sym ty ∙ subst (λ (z : Lit). t z.var ≡ z.positive) (sym d) e)
            | inr j ↦ mem-nil l j
          ]
        ]

    both-false : (x y : ℕ) → AreAdjacent pairs x y → t x ≡ true → t y ≡ true → ⊥
    both-false x y (inl m) tx ty = one-false x y m tx ty
    both-false x y (inr m) tx ty = one-false y x m ty tx

    -- the rows of other blocks with the edge of a forced row are false
    module _ (order : List ℕ) (forced : (p : ℕ) → p < length order → IsForced start g.edge.items order p) where
      abbrev IsFalse : ℕ → Type 0
      IsFalse p = (u j : ℕ) → IsBlockNumber start u → In start u j → (In start u (slice_index order p) → ⊥) → slice_index g.edge.items (slice_index order p) ≡ slice_index g.edge.items j → t (slice_index var j) ≡ true → ⊥

      false-step : (p : ℕ) → p < length order → ((k : ℕ) → k < p → k < length order → IsFalse k) → IsFalse p
      false-step p lp ih u j bu hj nu e tj = of (forced p lp)
        where
          with-true : (w : ℕ) → IsBlockNumber start w → In start w (slice_index order p) →
              ((i : ℕ) → In start w i → (slice_index g.edge.items i ≡ slice_index g.edge.items (slice_index order p)) ⊎ ((q : ℕ) × (q < p) × (slice_index g.edge.items (slice_index order q) ≡ slice_index g.edge.items i) × (In start w (slice_index order q) → ⊥))) →
              ((i : ℕ) × In start w i × (t (slice_index var i) ≡ true)) → ⊥
          with-true w bw hw f (i, hi, ti) = elim (f i hi) [
            | inl d ↦ both-false (slice_index var i) (slice_index var j) (edges-are.meets w u i j bw bu (λ z. nu (subst (λ y. In start y (slice_index order p)) z hw)) hi hj (d ∙ e)) ti tj
            | inr q ↦ ih q.0 q.1 (let k = q.1 in omega (arith, k, lp)) w i bw hi q.3 q.2 ti
          ]

          of : IsForced start g.edge.items order p → ⊥
          of (w, bw, hw, f) = with-true w bw hw f (true-row w bw)

      false-by : (n p : ℕ) → p < n → p < length order → IsFalse p
      false-by zero p l lp = absurd (omega (arith, l))
      false-by (suc n) p l lp = false-step p lp (λ k lk lo. false-by n k (omega (arith, lk, l)) lo)

    pub blocked-none : (order : List ℕ) (root : ℕ) → AreBlocked start g.edge.items order root → ⊥
    blocked-none order root b = of (true-row root b.stuck.0)
      where
        of : ((i : ℕ) × In start root i × (t (slice_index var i) ≡ true)) → ⊥
        of (i, hi, ti) = let q = b.stuck.1 i hi in false-by order b.forced (q.0 + 1) q.0 (omega arith) q.1 root i b.stuck.0 hi q.3 q.2 ti

  -- ---- chosen rows satisfy

  module _ (own : List (Option ℕ)) (ch : AreChosen start g.edge.items own) where
    module _ (value : ℕ → Bool) (set : (u i : ℕ) → row_of own u ≡ Some i → value (slice_index var i) ≡ true) (only : (x : ℕ) → 1 ≤ x → value x ≡ true → (u i : ℕ) × (row_of own u ≡ Some i) × (slice_index var i ≡ x)) where
      of-block : (v : ℕ) → v < length r.blocks → Satisfies value (map positive (block_at r.blocks v))
      of-block v l =
          let b : IsBlockNumber start v = subst (λ z. IsBlockNumber z v) (sym r.start) (block-is cnf.vars r.blocks pairs r.graph v l) in
          let i = ch.each v b in
          let m = (var-in v i.0 b i.2).1 in
          (positive (slice_index var i.0), Contains-map positive (block_at r.blocks v) (slice_index var i.0) m, set v i.0 i.1)

      from-one : (x y : ℕ) → AreAdjacent pairs x y → 1 ≤ x
      from-one x y a = let l = r.graph.listed x y a in (r.graph.small l.0 x l.1 l.2).0

      clash : (x y : ℕ) → Meet pairs x y → (u i : ℕ) × (row_of own u ≡ Some i) × (slice_index var i ≡ x) → (w j : ℕ) × (row_of own w ≡ Some j) × (slice_index var j ≡ y) → ⊥
      clash x y m (u, i, eu, ei) (w, j, ew, ej) =
          let hi = ch.own_in u i eu in
          let hj = ch.own_in w j ew in
          let a : AreAdjacent pairs (slice_index var i) (slice_index var j) = inl (subst (λ z. Meet pairs z (slice_index var j)) (sym ei) (subst (λ z. Meet pairs x z) (sym ej) m)) in
          let e = edges-are.same i j (edge-there u i hi.0 hi.1) (edge-there w j hj.0 hj.1) a in
          let same : u ≡ w = ch.apart u w i j eu ew e in
          apart u i j hi.0 hi.1 (subst (λ z. In start z j) (sym same) hj.1) a

      of-pair : (p : Pair) → Contains pairs p → Satisfies value (not_both p)
      of-pair p m = go (cases_Bool (value p.left)) (cases_Bool (value p.right))
        where
          go : (value p.left ≡ true) ⊎ (value p.left ≡ false) → (value p.right ≡ true) ⊎ (value p.right ≡ false) → Satisfies value (not_both p)
          go (inr e) b = (negative p.left, mem-head (negative p.left) (negative p.right ∷ []), e)
          go (inl a) (inr e) = (negative p.right, (1, omega arith, refl), e)
          go (inl a) (inl b) = absurd (clash p.left p.right m (only p.left (from-one p.left p.right (inl m)) a) (only p.right (from-one p.right p.left (inr m)) b))

      of-list : (c : List Lit) → ((b : List ℕ) × Contains r.blocks b × (map positive b ≡ c)) → Satisfies value c
      of-list c (b, (v, l, e), d) = subst (λ z. Satisfies value z) d (subst (λ z. Satisfies value (map positive z)) (get_or_default r.blocks v [] b l ∙ e) (of-block v l))

      pub chosen-satisfies : SatisfiesAll value (literals cnf.clauses)
      chosen-satisfies = subst (λ z. SatisfiesAll value z) (sym r.are) (λ c m. elim (Contains-append_cases (map (map positive) r.blocks) (map not_both pairs) c m) [
        | inl b ↦ of-list c (Contains-from_map (map positive) r.blocks c b)
        | inr b ↦ (let p = Contains-from_map not_both pairs c b in subst (λ z. Satisfies value z) p.2 (of-pair p.0 p.1))
      ])

    abbrev IsMine : ℕ → Option ℕ → Type 0
    IsMine x None = ⊥
    IsMine x (Some i) = slice_index var i ≡ x

    dec-mine : (x : ℕ) (o : Option ℕ) → Dec (IsMine x o)
    dec-mine x None = no (λ z. z)
    dec-mine x (Some i) = ℕ_discrete (slice_index var i) x

    dec-true : (x : ℕ) → Dec ((u : ℕ) × (u < length own) × IsMine x (row_of own u))
    dec-true x = dec_one_below (λ u. IsMine x (row_of own u)) (λ u. dec-mine x (row_of own u)) (length own)

    mine-of : (x : ℕ) (o : Option ℕ) → IsMine x o → (i : ℕ) × (o ≡ Some i) × (slice_index var i ≡ x)
    mine-of x None m = absurd m
    mine-of x (Some i) m = (i, refl, m)

    pub chosen-not : IsUnsatisfiable cnf → ⊥
    chosen-not un = un (λ x. is_yes (dec-true x)) (chosen-satisfies (λ x. is_yes (dec-true x))
        (λ u i e. yes_of (dec-true (slice_index var i)) (u, (let b = (ch.own_in u i e).0 in let s = ch.size in omega (arith, b, s)), subst (λ z. IsMine (slice_index var i) z) (sym e) refl))
        (λ x l e. let h = of_yes (dec-true x) e in let i = mine-of x (row_of own h.0) h.2 in (h.0, i.0, i.1, i.2)))
