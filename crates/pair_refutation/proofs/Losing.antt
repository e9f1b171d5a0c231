-- Variables that are found to be false, and blocks that get shorter by them.
use Rattle.std.proofs.Common.{◌≡◌, ◌≢◌, ◌⊎◌, inl, inr, ℕ, ◌+◌, ◌-◌, ◌<◌, ◌≤◌, ℤ, pos, negsuc, List, [], ◌∷◌, ◌++◌, length, map, flat_map, get_or, take, drop, replicate, set, refl, ap, sym, ◌∙◌, subst, arith, Option, Some, None, Result, Ok, Err, OnOk, true≢false, Contains, slice_index, length-append}
use native.Mathlib.Decide.{ℕ_discrete}
use Rattle.std.specs.List.{slice_range}
use Rattle.std.proofs.lemmas.Bool.{cases_lt}
use Rattle.std.proofs.lemmas.Option.{same_Some, none-some}
use Rattle.std.proofs.lemmas.Grind.{flat_map-append}
use Rattle.std.proofs.lemmas.List.{append-nil, get_or-set_same, get_or-set_other, get_or_default, get_or_append_left, get_or-append-add, get_or-take, get_or-drop, length-set, length-take, length-drop, length-replicate, take_more}
use Rattle.std.proofs.lemmas.List.Elements.{Contains-get_or}
use Rattle.cqa_value.proofs.Words.{Contains-map, Contains-from_map, Contains-flat_map, Contains-from_flat_map}
use Rattle.cnf_form.specs.declared.formula.Lit.{Lit}
use Rattle.cnf_form.specs.declared.formula.Cnf.{Cnf}
use Rattle.cnf_form.specs.declared.log.Step.{Step}
use Rattle.cnf_form.specs.declared.log.Step.TheVariants.{Add}
use Rattle.cnf_form.specs.Literals.{literals, opposite}
use Rattle.cnf_form.specs.Logs.{Live, HintsPass, Refutes, added, numbered}
use Rattle.cqa_model.proofs.Classic.{mem-head, mem-tail, mem-nil, mem-cases}
use Rattle.weak_pairs.specs.Peeling.{IsBlockNumber, In, IsForced, IsStuck}
use Rattle.pair_refutation.specs.declared.graph.Pair.{Pair}
use Rattle.pair_refutation.specs.declared.graph.Graph.{Graph}
use Rattle.pair_refutation.specs.Graph.{positive, negative, not_both, graph_clauses, Meet, AreAdjacent, block_at}
use Rattle.pair_refutation.specs.Edges.{pair_at, no_pair}
use Rattle.pair_refutation.specs.Formulas.{IsReadTo}
use Rattle.pair_refutation.specs.Refuting.{IsOf, IsLastOf, option_at, all_clauses, IsIdOf, Keeps, IsSoFar, IsLost, StayLost, AreHintsOf, id_hint, lost_hints, left_literal, left_literals, IsLeftOf, IsMet, MeetsAlike, AreMarked, AreBlocksOf}
use Rattle.pair_refutation.proofs.Collecting.{graph-some}
use Rattle.pair_refutation.proofs.Chaining.{IsFollowed, blank}
use Rattle.pair_refutation.proofs.Edging.{meet-at}
use Rattle.pair_refutation.proofs.Logging.{id-more, block-id, pair-id, follow-refutes, step-keeps, step-id, step-so_far}
use Rattle.pair_refutation.proofs.Assembling.{edges-are, rows-are, count-is, row-of, var-in, edge-there, listed, apart}

-- ---- hints that each say that a variable is false

abbrev of-pos : ℤ → ℕ
of-pos (pos n) = n
of-pos (negsuc n) = 0

signs : (x y : ℕ) → negative x ≡ positive y → ⊥
signs x y e = true≢false (sym (ap (λ (l : Lit). l.positive) e))

same-var : (x y : ℕ) → positive x ≡ positive y → x ≡ y
same-var x y e = ap (λ (l : Lit). l.var) e

-- the clause of the hint has not y, and all its other literals are false from the first on
record Says (live : Live) (held : List Lit) (h : ℤ) (y : ℕ) : Type 0 where
  id : ℕ
  clause : List Lit
  is : h ≡ pos id
  has : live id ≡ Some clause
  inside : Contains clause (negative y)
  others : (m : Lit) → Contains clause m → m ≢ negative y → Contains held (opposite m)
  free : Contains held (positive y) → ⊥

module _ (live : Live) (held : List Lit) where
  -- a hint says this of one variable
  says-one : (h : ℤ) (y z : ℕ) → Says live held h y → Says live held h z → y ≡ z
  says-one h y z a b = go (ℕ_discrete y z)
    where
      ids : a.id ≡ b.id
      ids = ap of-pos (sym a.is ∙ b.is)

      clauses : b.clause ≡ a.clause
      clauses = same_Some b.clause a.clause (sym b.has ∙ (ap live (sym ids) ∙ a.has))

      go : Dec (y ≡ z) → y ≡ z
      go (yes e) = e
      go (no d) = absurd (b.free (a.others (negative z) (subst (λ c. Contains c (negative z)) clauses b.inside) (λ e. d (sym (ap (λ (l : Lit). l.var) e)))))

  -- what is known of a clause's literals: each is false by now, or some hint says so
  abbrev Said : List ℤ → List Lit → Lit → Type 0
  Said hs now m = (y : ℕ) × (m ≡ positive y) × (Contains now (negative y) ⊎ ((h : ℤ) × Contains hs h × Says live held h y))

  said-more : (x : ℤ) (hs : List ℤ) (now : List Lit) (y : ℕ) → Says live held x y → (m : Lit) → Said (x ∷ hs) now m → Said hs (negative y ∷ now) m
  said-more x hs now y s m (z, e, inl k) = (z, e, inl (mem-tail (negative z) (negative y) now k))
  said-more x hs now y s m (z, e, inr (h, k, t)) = elim (mem-cases h x hs k) [
    | inl d ↦ (z, e, inl (subst (λ w. Contains (negative y ∷ now) (negative w)) (says-one x y z s (subst (λ g. Says live held g z) (sym d) t)) (mem-head (negative y) now)))
    | inr j ↦ (z, e, inr (h, j, t))
  ]

  -- where the hints say that all variables of a clause are false, the clause's id ends them
  unit-pass : (last : ℕ) (clause : List Lit) → live last ≡ Some clause → (hs : List ℤ) (now : List Lit) → ((l : Lit) → Contains held l → Contains now l) →
      ((y : ℕ) → Contains now (positive y) → Contains held (positive y)) → ((h : ℤ) → Contains hs h → (y : ℕ) × Says live held h y) → ((m : Lit) → Contains clause m → Said hs now m) → HintsPass live now (hs ++ pos last ∷ [])
  unit-pass last clause is [] now more less each said = (clause, is, inl (λ m k. denied m (said m k)))
    where
      denied : (m : Lit) → Said [] now m → Contains now (opposite m)
      denied m (y, e, inl k) = subst (λ z. Contains now (opposite z)) (sym e) k
      denied m (y, e, inr k) = absurd (mem-nil k.0 k.1)
  unit-pass last clause is (x ∷ hs) now more less each said =
      let p = each x (mem-head x hs) in
      let y = p.0 in
      let s = p.1 in
      let rest = unit-pass last clause is hs (negative y ∷ now) (λ l k. mem-tail l (negative y) now (more l k))
      (λ z k. elim (mem-cases (positive z) (negative y) now k) [ inl e ↦ absurd (signs y z e) | inr j ↦ less z j ])
      (λ h k. each h (mem-tail h x hs k)) (λ m k. said-more x hs now y s m (said m k)) in
      subst (λ z. HintsPass live now (z ∷ (hs ++ pos last ∷ []))) (sym s.is)
      (s.clause, s.has, inr (negative y, record { inside = s.inside; free = λ k. s.free (less y k); others = λ m k n. more (opposite m) (s.others m k n) }, rest))

-- ---- the graph of a formula

option-cases : (o : Option ℕ) → (o ≡ None) ⊎ ((k : ℕ) × (o ≡ Some k))
option-cases None = inl refl
option-cases (Some k) = inr (k, refl)

-- ---- hints and literals of variables

-- one variable more
pub more-is : {A : Type 0} (f : ℕ → List A) (vars : List ℕ) (i : ℕ) → i < length vars → (old new : List A) → old ≡ flat_map f (take i vars) → new ≡ f (slice_index vars i) → old ++ new ≡ flat_map f (take (i + 1) vars)
more-is f vars i l old new e d =
    ap (λ z. z ++ new) e ∙ (ap (λ z. flat_map f (take i vars) ++ z) (d ∙ sym (append-nil (f (slice_index vars i))))
    ∙ (sym (flat_map-append f (take i vars) (slice_index vars i ∷ [])) ∙ ap (flat_map f) (sym (take_more vars i 0 l))))

pub no-literal : (x : ℕ) (o : Option ℕ) → (o ≡ None → ⊥) → [] ≡ left_literal x o
no-literal x None n = absurd (n refl)
no-literal x (Some id) n = refl

module _ (lost : List (Option ℕ)) (vars : List ℕ) where
  left-each : (m : Lit) → Contains (left_literals lost vars) m → (x : ℕ) × Contains vars x × (option_at lost x ≡ None) × (m ≡ positive x)
  left-each m k = let p = Contains-from_flat_map (λ x. left_literal x (option_at lost x)) vars m k in let h = of p.0 (option_at lost p.0) p.2 in (p.0, p.1, h.0, h.1)
    where
      of : (x : ℕ) (o : Option ℕ) → Contains (left_literal x o) m → (o ≡ None) × (m ≡ positive x)
      of x None c = elim (mem-cases m (positive x) [] c) [ inl e ↦ (refl, sym e) | inr j ↦ absurd (mem-nil m j) ]
      of x (Some id) c = absurd (mem-nil m c)

  left-all : (x : ℕ) → Contains vars x → option_at lost x ≡ None → Contains (left_literals lost vars) (positive x)
  left-all x k e = Contains-flat_map (λ y. left_literal y (option_at lost y)) vars x (positive x) k (subst (λ o. Contains (left_literal x o) (positive x)) (sym e) (mem-head (positive x) []))

  hints-each : (h : ℤ) → Contains (lost_hints lost vars) h → (x id : ℕ) × (option_at lost x ≡ Some id) × (h ≡ pos id)
  hints-each h k = let p = Contains-from_flat_map (λ x. id_hint (option_at lost x)) vars h k in let id = of (option_at lost p.0) p.2 in (p.0, id.0, id.1, id.2)
    where
      of : (o : Option ℕ) → Contains (id_hint o) h → (id : ℕ) × (o ≡ Some id) × (h ≡ pos id)
      of None c = absurd (mem-nil h c)
      of (Some id) c = elim (mem-cases h (pos id) [] c) [ inl e ↦ (id, refl, sym e) | inr j ↦ absurd (mem-nil h j) ]

  hints-all : (x id : ℕ) → Contains vars x → option_at lost x ≡ Some id → Contains (lost_hints lost vars) (pos id)
  hints-all x id k e = Contains-flat_map (λ y. id_hint (option_at lost y)) vars x (pos id) k (subst (λ o. Contains (id_hint o) (pos id)) (sym e) (mem-head (pos id) []))

pub read-at : (xs : List ℕ) (i x : ℕ) → i < length xs → x ≡ get_or xs i x → x ≡ slice_index xs i
read-at xs i x l e = e ∙ get_or_default xs i x 0 l

-- ---- the variables of a block's rows

of-range : (xs : List ℕ) (first end x : ℕ) → Contains (slice_range xs first end) x → (i : ℕ) × (first ≤ i) × (i < end) × (slice_index xs i ≡ x)
of-range xs first end x (k, l, e) =
    let n = length-take (end - first) (drop first xs) in
    let d = length-drop first xs in
    let a : k < end - first = omega (arith, l, n) in
    let at = sym (get_or-drop first xs k x) ∙ (sym (get_or-take (end - first) (drop first xs) k x a) ∙ e) in
    (first + k, omega arith, omega (arith, a), get_or_default xs (first + k) 0 x (omega (arith, l, n, d)) ∙ at)

in-range : (xs : List ℕ) (first end i : ℕ) → first ≤ i → i < end → i < length xs → Contains (slice_range xs first end) (slice_index xs i)
in-range xs first end i from to l =
    let n = length-take (end - first) (drop first xs) in
    let d = length-drop first xs in
    let e : first + (i - first) ≡ i = omega (arith, from) in
    let at : slice_index (slice_range xs first end) (i - first) ≡ slice_index xs i = get_or-take (end - first) (drop first xs) (i - first) 0 (omega (arith, from, to)) ∙ (get_or-drop first xs (i - first) 0 ∙ ap (λ z. slice_index xs z) e) in
    subst (λ z. Contains (slice_range xs first end) z) at (Contains-get_or (slice_range xs first end) (i - first) 0 (omega (arith, n, d, from, to, l)))

module _ (cnf : Cnf) (g : Graph) (r : IsReadTo cnf g) where
  abbrev pairs : List Pair
  pairs = g.pairs.items

  abbrev start : List ℕ
  start = g.start.items

  abbrev var : List ℕ
  var = g.var.items

  pub rows-within : (v : ℕ) → IsBlockNumber start v → slice_index start (v + 1) ≤ length var
  rows-within v b = let w = (rows-are cnf g r).within v b in let s = (edges-are cnf g r).size in omega (arith, w, s)

  -- the variables of rows are those of the formula
  row-var-small : (v i : ℕ) → IsBlockNumber start v → In start v i → slice_index var i ≤ cnf.vars
  row-var-small v i b h = let m = var-in cnf g r v i b h in (r.graph.small v (slice_index var i) m.0 m.1).1

  abbrev pub vars-of : ℕ → List ℕ
  vars-of v = slice_range var (slice_index start v) (slice_index start (v + 1))

  row-of-var : (v x : ℕ) → Contains (vars-of v) x → (i : ℕ) × In start v i × (slice_index var i ≡ x)
  row-of-var v x m = let i = of-range var (slice_index start v) (slice_index start (v + 1)) x m in (i.0, (i.1, i.2), i.3)

  var-of-row : (v i : ℕ) → IsBlockNumber start v → In start v i → Contains (vars-of v) (slice_index var i)
  var-of-row v i b h = let w = rows-within v b in let l : i < slice_index start (v + 1) = h.1 in in-range var (slice_index start v) (slice_index start (v + 1)) i h.0 h.1 (omega (arith, l, w))

  pub vars-read : (v : ℕ) → IsBlockNumber start v → (all : List ℕ) (first end : ℕ) → all ≡ var → first ≡ get_or start v first → end ≡ get_or start (v + 1) end → slice_range all first end ≡ vars-of v
  vars-read v b all first end e ef ee =
      ap (λ z. slice_range z first end) e ∙ (ap (λ z. slice_range var z end) (read-at start v first (omega (arith, b)) ef) ∙ ap (λ z. slice_range var (slice_index start v) z) (read-at start (v + 1) end b ee))

  pub vars-small : (v x : ℕ) → IsBlockNumber start v → Contains (vars-of v) x → x ≤ cnf.vars
  vars-small v x b m = let i = row-of-var v x m in subst (λ z. z ≤ cnf.vars) i.2 (row-var-small v i.0 b i.1)

  pub rows-rise : (v : ℕ) → IsBlockNumber start v → slice_index start v ≤ slice_index start (v + 1)
  rows-rise v b = let l = (rows-are cnf g r).rising v (v + 1) (omega arith) b in omega (arith, l)

  one-block : (u v i : ℕ) → IsBlockNumber start u → IsBlockNumber start v → In start u i → In start v i → u ≡ v
  one-block u v i bu bv iu iv = turn (cases u v)
    where
      cases : (i j : ℕ) → (i ≡ j) ⊎ ((i < j) ⊎ (j < i))
      cases i j = grind arith

      next : (a b : ℕ) → a < b → IsBlockNumber start b → slice_index start (a + 1) ≤ slice_index start b
      next a b l h = step (ℕ_discrete (a + 1) b)
        where
          step : Dec (a + 1 ≡ b) → slice_index start (a + 1) ≤ slice_index start b
          step (yes e) = subst (λ z. slice_index start (a + 1) ≤ slice_index start z) e (omega arith)
          step (no d) = let s = (rows-are cnf g r).rising (a + 1) b (omega (arith, l, d)) (omega (arith, h)) in omega (arith, s)

      turn : (u ≡ v) ⊎ ((u < v) ⊎ (v < u)) → u ≡ v
      turn (inl e) = e
      turn (inr (inl l)) = let n = next u v l bv in let a : i < slice_index start (u + 1) = iu.1 in let b : slice_index start v ≤ i = iv.0 in absurd (omega (arith, n, a, b))
      turn (inr (inr l)) = let n = next v u l bu in let a : i < slice_index start (v + 1) = iv.1 in let b : slice_index start u ≤ i = iu.0 in absurd (omega (arith, n, a, b))

  module _ (steps : List Step) (lost : List (Option ℕ)) (sf : IsSoFar cnf steps lost) where
    abbrev live : Live
    live = numbered (all_clauses cnf steps)

    first-id : (id : ℕ) (c : List Lit) → numbered (graph_clauses r.blocks pairs) id ≡ Some c → live id ≡ Some c
    first-id id c e = id-more (literals cnf.clauses) (added steps) id c (subst (λ z. numbered z id ≡ Some c) (sym r.are) e)

    -- ---- a block gets shorter

    module _ (v : ℕ) (b : IsBlockNumber start v) where
      here : v < length r.blocks
      here = let c = r.count in let n = count-is cnf g r in omega (arith, b, c, n)

      own-id : live (v + 1) ≡ Some (map positive (block_at r.blocks v))
      own-id = first-id (v + 1) (map positive (block_at r.blocks v)) (block-id r.blocks pairs v here)

      row : (m : Lit) → Contains (map positive (block_at r.blocks v)) m → (i : ℕ) × In start v i × (m ≡ positive (slice_index var i))
      row m k =
          let p = Contains-from_map positive (block_at r.blocks v) m k in
          let i = row-of cnf g r v p.0 here p.1 in
          (i.0, i.2, sym p.2 ∙ ap positive (sym i.3))

      -- where none is lost, the block's own clause is short
      pub own-left : length (lost_hints lost (vars-of v)) ≡ 0 → IsLeftOf cnf steps g lost v (v + 1)
      own-left e = (map positive (block_at r.blocks v), own-id, λ m k. let i = row m k in (i.0, i.1, none (slice_index var i.0) (var-of-row v i.0 b i.1), i.2))
        where
          none : (x : ℕ) → Contains (vars-of v) x → option_at lost x ≡ None
          none x m = elim (option-cases (option_at lost x)) [ inl n ↦ n | inr s ↦ (let l = (hints-all lost (vars-of v) x s.0 m s.1).1 in absurd (omega (arith, l, e))) ]

      abbrev held : List Lit
      held = map opposite (left_literals lost (vars-of v))

      only-negative : (y : ℕ) → Contains held (positive y) → ⊥
      only-negative y k =
          let p = Contains-from_map opposite (left_literals lost (vars-of v)) (positive y) k in
          let x = left-each lost (vars-of v) p.0 p.1 in
          signs x.0 y (ap opposite (sym x.3) ∙ p.2)

      lost-says : (y id : ℕ) → option_at lost y ≡ Some id → Says live held (pos id) y
      lost-says y id e = record {
        id = id;
        clause = negative y ∷ [];
        is = refl;
        has = sf.named y id e;
        inside = mem-head (negative y) [];
        others = λ m k n. elim (mem-cases m (negative y) [] k) [ inl d ↦ absurd (n (sym d)) | inr j ↦ absurd (mem-nil m j) ];
        free = only-negative y;
      }

      pub short-pass : HintsPass live held (lost_hints lost (vars-of v) ++ pos (v + 1) ∷ [])
      short-pass = unit-pass live held (v + 1) (map positive (block_at r.blocks v)) own-id (lost_hints lost (vars-of v)) held (λ l k. k) (λ y k. k)
          (λ h k. let x = hints-each lost (vars-of v) h k in (x.0, subst (λ z. Says live held z x.0) (sym x.3) (lost-says x.0 x.1 x.2)))
          (λ m k. said m (row m k))
        where
          said : (m : Lit) → (i : ℕ) × In start v i × (m ≡ positive (slice_index var i)) → (y : ℕ) × (m ≡ positive y) × (Contains held (negative y) ⊎ ((h : ℤ) × Contains (lost_hints lost (vars-of v)) h × Says live held h y))
          said m (i, hi, e) = let x = slice_index var i in let k = var-of-row v i b hi in elim (option-cases (option_at lost x)) [
            | inl n ↦ (x, e, inl (Contains-map opposite (left_literals lost (vars-of v)) (positive x) (left-all lost (vars-of v) x k n)))
            | inr s ↦ (x, e, inr (pos s.0, hints-all lost (vars-of v) x s.0 k s.1, lost-says x s.0 s.1))
          ]

    -- ---- a variable is lost

    module _ (x last : ℕ) (met : IsMet cnf steps pairs x last) where
      -- the other variable of a pair of x
      pair-says : (t : ℕ) → t < length pairs → (y : ℕ) → AreAdjacent pairs y x → ((pair_at pairs t).left ≡ x) × ((pair_at pairs t).right ≡ y) ⊎ ((pair_at pairs t).left ≡ y) × ((pair_at pairs t).right ≡ x) →
          Says live (positive x ∷ []) (pos (g.blocks + t + 1)) y
      pair-says t l y a s = record {
        id = g.blocks + t + 1;
        clause = not_both (pair_at pairs t);
        is = refl;
        has = first-id (g.blocks + t + 1) (not_both (pair_at pairs t)) (subst (λ z. numbered (graph_clauses r.blocks pairs) (z + t + 1) ≡ Some (not_both (pair_at pairs t))) (sym (count-is cnf g r)) (pair-id r.blocks pairs t l));
        inside = elim s [
          | inl e ↦ (1, omega arith, ap negative e.1)
          | inr e ↦ (0, omega arith, ap negative e.0)
        ];
        others = λ m k n. elim (mem-cases m (negative (pair_at pairs t).left) (negative (pair_at pairs t).right ∷ []) k) [
          | inl d ↦ elim s [
            | inl e ↦ is-x m (sym d ∙ ap negative e.0)
            | inr e ↦ absurd (n (sym d ∙ ap negative e.0))
          ]
          | inr k2 ↦ elim (mem-cases m (negative (pair_at pairs t).right) [] k2) [
            | inl d ↦ elim s [
              | inl e ↦ absurd (n (sym d ∙ ap negative e.1))
              | inr e ↦ is-x m (sym d ∙ ap negative e.1)
            ]
            | inr j ↦ absurd (mem-nil m j)
          ]
        ];
        free = λ k. elim (mem-cases (positive y) (positive x) [] k) [ inl d ↦ differ a (same-var x y d) | inr j ↦ mem-nil (positive y) j ];
      }
        where
          is-x : (m : Lit) → m ≡ negative x → Contains (positive x ∷ []) (opposite m)
          is-x m e = subst (λ z. Contains (positive x ∷ []) (opposite z)) (sym e) (mem-head (positive x) [])

          differ : AreAdjacent pairs y x → x ≡ y → ⊥
          differ (inl m) e = let k = r.graph.paired.rises y x m in omega (arith, k, e)
          differ (inr m) e = let k = r.graph.paired.rises x y m in omega (arith, k, e)

      at-pair : (t y z : ℕ) → t < length pairs → get_or pairs t (record { left = y; right = z }) ≡ record { left = y; right = z } → pair_at pairs t ≡ record { left = y; right = z }
      at-pair t y z l e = get_or_default pairs t no_pair (record { left = y; right = z }) l ∙ e

      pub lose-pass : (hints : List ℤ) → AreHintsOf g x last hints → HintsPass live (map opposite (negative x ∷ [])) hints
      lose-pass hints (hs, are, is) = subst (λ z. HintsPass live (positive x ∷ []) z) (sym is)
          (unit-pass live (positive x ∷ []) last met.0 met.1 hs (positive x ∷ []) (λ l k. k) (λ y k. k) (λ h k. each h (are.each h k)) (λ m k. said m (met.2 m k)))
        where
          each : (h : ℤ) → (t : ℕ) × (t < length pairs) × IsOf (pair_at pairs t) x × (h ≡ pos (g.blocks + t + 1)) → (y : ℕ) × Says live (positive x ∷ []) h y
          each h (t, l, inl e, d) = (
            (pair_at pairs t).right,
            subst (λ z. Says live (positive x ∷ []) z (pair_at pairs t).right) (sym d)
                (pair-says t l (pair_at pairs t).right (inr (subst (λ z. Meet pairs z (pair_at pairs t).right) e (meet-at pairs t l))) (inl (e, refl))),
          )
          each h (t, l, inr e, d) = (
            (pair_at pairs t).left,
            subst (λ z. Says live (positive x ∷ []) z (pair_at pairs t).left) (sym d)
                (pair-says t l (pair_at pairs t).left (inl (subst (λ z. Meet pairs (pair_at pairs t).left z) e (meet-at pairs t l))) (inr (refl, e))),
          )

          said : (m : Lit) → (y : ℕ) × AreAdjacent pairs y x × (m ≡ positive y) → (y : ℕ) × (m ≡ positive y) × (Contains (positive x ∷ []) (negative y) ⊎ ((h : ℤ) × Contains hs h × Says live (positive x ∷ []) h y))
          said m (y, inl (t, l, e), d) =
              let at : pair_at pairs t ≡ record { left = y; right = x } = at-pair t y x l e in
              (y, d, inr (pos (g.blocks + t + 1), are.all t (omega arith) l (inr (ap (λ (p : Pair). p.right) at)), pair-says t l y (inl (t, l, e)) (inr (ap (λ (p : Pair). p.left) at, ap (λ (p : Pair). p.right) at))))
          said m (y, inr (t, l, e), d) =
              let at : pair_at pairs t ≡ record { left = x; right = y } = at-pair t x y l e in
              (y, d, inr (pos (g.blocks + t + 1), are.all t (omega arith) l (inl (ap (λ (p : Pair). p.left) at)), pair-says t l y (inr (t, l, e)) (inl (ap (λ (p : Pair). p.left) at, ap (λ (p : Pair). p.right) at))))

    -- ---- what a forced row tells

    module _ (order : List ℕ) (n : ℕ) (forced : (q : ℕ) → q < n → IsForced start g.edge.items order q) (marked : AreMarked g order lost n) where
      -- a row of an edge that was taken in another block is lost
      pub taken-lost : (v i q : ℕ) → IsBlockNumber start v → In start v i → q < n → slice_index g.edge.items (slice_index order q) ≡ slice_index g.edge.items i → (In start v (slice_index order q) → ⊥) → IsLost lost (slice_index var i)
      taken-lost v i q b hi l e out = go (forced q l)
        where
          go : IsForced start g.edge.items order q → IsLost lost (slice_index var i)
          go (w, bw, hw, f) = marked q (slice_index var i) l
              ((edges-are cnf g r).meets w v (slice_index order q) i bw b (λ d. out (subst (λ z. In start z (slice_index order q)) d hw)) hw hi e)

      -- the rows that are left to a forced row's block meet alike
      pub left-alike : IsForced start g.edge.items order n → (v : ℕ) → IsBlockNumber start v → In start v (slice_index order n) → (i : ℕ) → In start v i → option_at lost (slice_index var i) ≡ None →
          (b : ℕ) → AreAdjacent pairs (slice_index var (slice_index order n)) b → AreAdjacent pairs (slice_index var i) b
      left-alike (u, bu, hu, f) v bv hv i hi none b a = go (f i (subst (λ z. In start z i) (sym same) hi))
        where
          same : u ≡ v
          same = one-block u v (slice_index order n) bu bv hu hv

          go : (slice_index g.edge.items i ≡ slice_index g.edge.items (slice_index order n)) ⊎ ((q : ℕ) × (q < n) × (slice_index g.edge.items (slice_index order q) ≡ slice_index g.edge.items i) × (In start u (slice_index order q) → ⊥)) →
              AreAdjacent pairs (slice_index var i) b
          go (inr (q, l, e, out)) = let k = taken-lost v i q bv hi l e (subst (λ z. In start z (slice_index order q) → ⊥) same out) in absurd (none-some k.0 (sym none ∙ k.1))
          go (inl e) = with-row (listed cnf g r b (slice_index var (slice_index order n)) (turn a))
            where
              turn : AreAdjacent pairs (slice_index var (slice_index order n)) b → AreAdjacent pairs b (slice_index var (slice_index order n))
              turn (inl m) = inr m
              turn (inr m) = inl m

              with-row : (w k : ℕ) × IsBlockNumber start w × In start w k × (slice_index var k ≡ b) → AreAdjacent pairs (slice_index var i) b
              with-row (w, k, bw, hk, is) =
                  let a2 : AreAdjacent pairs (slice_index var (slice_index order n)) (slice_index var k) = subst (λ z. AreAdjacent pairs (slice_index var (slice_index order n)) z) (sym is) a in
                  let out : v ≢ w = (λ d. apart cnf g r v (slice_index order n) k bv hv (subst (λ z. In start z k) (sym d) hk) a2) in
                  let ek = (edges-are cnf g r).same (slice_index order n) k (edge-there cnf g r v (slice_index order n) bv hv) (edge-there cnf g r w k bw hk) a2 in
                  subst (λ z. AreAdjacent pairs (slice_index var i) z) is ((edges-are cnf g r).meets v w i k bv bw out hi hk (e ∙ ek))

      pub alike : IsForced start g.edge.items order n → (v : ℕ) → IsBlockNumber start v → In start v (slice_index order n) → (id : ℕ) → IsLeftOf cnf steps g lost v id →
          MeetsAlike cnf steps pairs (slice_index var (slice_index order n)) id
      alike f v b h id (c, is, each) = (c, is, λ m k. let i = each m k in (slice_index var i.0, left-alike f v b h i.0 i.1 i.2, i.3))

      -- at the end
      pub end-refutes : (root id : ℕ) → n ≡ length order → IsStuck start g.edge.items order root → IsLeftOf cnf steps g lost root id → Refutes cnf steps
      end-refutes root id en stuck (c, is, each) = follow-refutes cnf steps sf.follow no-empty id (is ∙ ap Some (empty c none))
        where
          none : (m : Lit) → Contains c m → ⊥
          none m k =
              let i = each m k in
              let q = stuck.1 i.0 i.1 in
              let l = taken-lost root i.0 q.0 stuck.0 i.1 (let s = q.1 in omega (arith, s, en)) q.2 q.3 in
              none-some l.0 (sym i.2 ∙ l.1)

          empty : (xs : List Lit) → ((m : Lit) → Contains xs m → ⊥) → xs ≡ []
          empty [] h = refl
          empty (m ∷ xs) h = absurd (h m (mem-head m xs))

          no-empty : Contains (literals cnf.clauses) [] → ⊥
          no-empty m = let l = graph-some r.blocks pairs r.graph.some [] (subst (λ z. Contains z []) r.are m) in omega (arith, l)

-- ---- one more variable is lost

pub lost-set : (cnf : Cnf) (steps : List Step) (lost : List (Option ℕ)) (x id : ℕ) → IsSoFar cnf steps lost → x < length lost → IsIdOf cnf steps id (negative x ∷ []) → IsSoFar cnf steps (set lost x (Some id))
lost-set cnf steps lost x id sf l is = record {
  follow = sf.follow;
  size = length-set lost x (Some id) ∙ sf.size;
  named = λ y k e. named y k e (ℕ_discrete y x);
}
  where
    named : (y k : ℕ) → option_at (set lost x (Some id)) y ≡ Some k → Dec (y ≡ x) → IsIdOf cnf steps k (negative y ∷ [])
    named y k e (yes d) =
        let ek : id ≡ k = same_Some id k (sym (ap (λ z. option_at (set lost x (Some id)) z) d ∙ get_or-set_same lost x (Some id) None l) ∙ e) in
        subst (λ z. IsIdOf cnf steps k (negative z ∷ [])) (sym d) (subst (λ z. IsIdOf cnf steps z (negative x ∷ [])) ek is)
    named y k e (no d) = sf.named y k (sym (get_or-set_other lost x y (Some id) None d) ∙ e)

pub lost-here : (lost : List (Option ℕ)) (x id : ℕ) → x < length lost → IsLost (set lost x (Some id)) x
lost-here lost x id l = (id, get_or-set_same lost x (Some id) None l)

pub lost-stay : (lost : List (Option ℕ)) (x id : ℕ) → x < length lost → StayLost lost (set lost x (Some id))
lost-stay lost x id l y k = go (ℕ_discrete y x)
  where
    go : Dec (y ≡ x) → IsLost (set lost x (Some id)) y
    go (yes d) = subst (λ z. IsLost (set lost x (Some id)) z) (sym d) (lost-here lost x id l)
    go (no d) = (k.0, get_or-set_other lost x y (Some id) None d ∙ k.1)

pub marked-more : (g : Graph) (order : List ℕ) (old new : List (Option ℕ)) (n : ℕ) → AreMarked g order old n → StayLost old new → ((b : ℕ) → AreAdjacent g.pairs.items (slice_index g.var.items (slice_index order n)) b → IsLost new b) → AreMarked g order new (n + 1)
marked-more g order old new n h stay all q b l a = go (ℕ_discrete q n)
  where
    go : Dec (q ≡ n) → IsLost new b
    go (yes e) = all b (subst (λ z. AreAdjacent g.pairs.items (slice_index g.var.items (slice_index order z)) b) e a)
    go (no d) = stay b (h q b (omega (arith, l, d)) a)

-- ---- all that meet a variable are lost

-- the pairs of the variable behind a place were met, and their other variables are lost
pub record IsLosing (cnf : Cnf) (g : Graph) (x last : ℕ) (first : List (Option ℕ)) (n : ℕ) (at : Option ℕ) (steps : List Step) (lost : List (Option ℕ)) : Type 0 where
  pub followed : IsFollowed g.pairs.items x n at
  pub met : (t b : ℕ) → n ≤ t → t < length g.pairs.items → IsOf (pair_at g.pairs.items t) x → IsOf (pair_at g.pairs.items t) b → b ≢ x → IsLost lost b
  pub so_far : IsSoFar cnf steps lost
  pub alike : MeetsAlike cnf steps g.pairs.items x last
  pub stay : StayLost first lost

-- the other variable of a pair
abbrev pub IsOther : ℕ → Pair → ℕ → Type 0
IsOther x p y = ((p.left ≡ x) × (y ≡ p.right)) ⊎ ((p.right ≡ x) × (y ≡ p.left))

module _ (cnf : Cnf) (g : Graph) (r : IsReadTo cnf g) (x last : ℕ) (first : List (Option ℕ)) where
  abbrev graph-pairs : List Pair
  graph-pairs = g.pairs.items

  pub losing-none : (at : Option ℕ) (steps : List Step) (lost : List (Option ℕ)) → IsLastOf graph-pairs x (length graph-pairs) at → IsSoFar cnf steps lost → MeetsAlike cnf steps graph-pairs x last → first ≡ lost → IsLosing cnf g x last first (length graph-pairs) at steps lost
  losing-none at steps lost h sf alike e = record {
    followed = record { within = omega arith; last = h };
    met = λ t b l s m k n. absurd (omega (arith, l, s));
    so_far = sf;
    alike = alike;
    stay = λ y k. subst (λ z. IsLost z y) e k;
  }

  module _ (n k : ℕ) (steps : List Step) (lost : List (Option ℕ)) (h : IsLosing cnf g x last first n (Some k) steps lost) where
    pub place-within : k < length graph-pairs
    place-within = let l = h.followed.last.0 in let w = h.followed.within in omega (arith, l, w)

    pub place-of : IsOf (pair_at graph-pairs k) x
    place-of = h.followed.last.1

  -- one pair more
  module _ (n k : ℕ) (at : Option ℕ) (is : at ≡ Some k) (steps : List Step) (lost : List (Option ℕ)) (losing : IsLosing cnf g x last first n at steps lost) (p : Pair) (read : p ≡ get_or graph-pairs k p) (y : ℕ) (beside : IsOther x p y) where
    h : IsLosing cnf g x last first n (Some k) steps lost
    h = subst (λ o. IsLosing cnf g x last first n o steps lost) is losing

    within : k < length graph-pairs
    within = place-within n k steps lost h

    other : IsOther x (pair_at graph-pairs k) y
    other = subst (λ z. IsOther x z y) (read ∙ get_or_default graph-pairs k p no_pair within) beside

    other-meets : AreAdjacent graph-pairs x y
    other-meets = elim other [
      | inl e ↦ inl (subst (λ z. Meet graph-pairs z y) e.0 (subst (λ z. Meet graph-pairs (pair_at graph-pairs k).left z) (sym e.1) (meet-at graph-pairs k within)))
      | inr e ↦ inr (subst (λ z. Meet graph-pairs y z) e.0 (subst (λ z. Meet graph-pairs z (pair_at graph-pairs k).right) (sym e.1) (meet-at graph-pairs k within)))
    ]

    pub other-small : y ≤ cnf.vars
    other-small = elim other-meets [
      | inl m ↦ r.graph.paired.small x y m
      | inr m ↦ let s = r.graph.paired.small y x m in let l = r.graph.paired.rises y x m in omega (arith, s, l)
    ]

    pub other-met : IsMet cnf steps graph-pairs y last
    other-met = (h.alike.0, h.alike.1, λ m c. let a = h.alike.2 m c in (a.0, a.1 y other-meets, a.2))

    pub losing-more : (steps_new : List Step) (lost_new : List (Option ℕ)) → IsSoFar cnf steps_new lost_new → IsLost lost_new y → StayLost lost lost_new → Keeps cnf steps steps_new → (next : Option ℕ) → IsLastOf graph-pairs x k next →
        IsLosing cnf g x last first k next steps_new lost_new
    losing-more steps_new lost_new sf here stay keeps next before = record {
      followed = record { within = (let l = within in omega (arith, l)); last = before };
      met = λ t b l s m c ne. go t b l s m c ne (ℕ_discrete t k);
      so_far = sf;
      alike = (h.alike.0, keeps last h.alike.0 h.alike.1, h.alike.2);
      stay = λ z d. stay z (h.stay z d);
    }
      where
        only : (b : ℕ) → IsOf (pair_at graph-pairs k) b → b ≢ x → b ≡ y
        only b c ne = elim other [
          | inl e ↦ elim c [ inl d ↦ absurd (ne (sym d ∙ e.0)) | inr d ↦ sym d ∙ sym e.1 ]
          | inr e ↦ elim c [ inl d ↦ sym d ∙ sym e.1 | inr d ↦ absurd (ne (sym d ∙ e.0)) ]
        ]

        go : (t b : ℕ) → k ≤ t → t < length graph-pairs → IsOf (pair_at graph-pairs t) x → IsOf (pair_at graph-pairs t) b → b ≢ x → Dec (t ≡ k) → IsLost lost_new b
        go t b l s m c ne (yes e) = subst (λ z. IsLost lost_new z) (sym (only b (subst (λ z. IsOf (pair_at graph-pairs z) b) e c) ne)) here
        go t b l s m c ne (no d) = elim (cases_lt t n) [
          | inl below ↦ absurd (h.followed.last.2 t (omega (arith, l, d)) below m)
          | inr behind ↦ stay b (h.met t b behind s m c ne)
        ]

  pub losing-all : (n : ℕ) (steps : List Step) (lost : List (Option ℕ)) → IsLosing cnf g x last first n None steps lost → (b : ℕ) → AreAdjacent graph-pairs x b → IsLost lost b
  losing-all n steps lost h b a = go a
    where
      at-place : (t : ℕ) → t < length graph-pairs → IsOf (pair_at graph-pairs t) x → IsOf (pair_at graph-pairs t) b → b ≢ x → IsLost lost b
      at-place t l m c ne = elim (cases_lt t n) [ inl below ↦ absurd (h.followed.last t below m) | inr behind ↦ h.met t b behind l m c ne ]

      go : AreAdjacent graph-pairs x b → IsLost lost b
      go (inl (t, l, e)) =
          let at = get_or_default graph-pairs t no_pair (record { left = x; right = b }) l ∙ e in
          at-place t l (inl (ap (λ (p : Pair). p.left) at)) (inr (ap (λ (p : Pair). p.right) at)) (λ d. let s = r.graph.paired.rises x b (t, l, e) in omega (arith, s, d))
      go (inr (t, l, e)) =
          let at = get_or_default graph-pairs t no_pair (record { left = b; right = x }) l ∙ e in
          at-place t l (inr (ap (λ (p : Pair). p.right) at)) (inl (ap (λ (p : Pair). p.left) at)) (λ d. let s = r.graph.paired.rises b x (t, l, e) in omega (arith, s, d))

  -- where a variable has no pair, none meets it
  pub alone : (steps : List Step) (lost : List (Option ℕ)) → IsLastOf graph-pairs x (length graph-pairs) None → (b : ℕ) → AreAdjacent graph-pairs x b → ⊥
  alone steps lost h b (inl (t, l, e)) = h t l (inl (ap (λ (p : Pair). p.left) (get_or_default graph-pairs t no_pair (record { left = x; right = b }) l ∙ e)))
  alone steps lost h b (inr (t, l, e)) = h t l (inr (ap (λ (p : Pair). p.right) (get_or_default graph-pairs t no_pair (record { left = b; right = x }) l ∙ e)))

-- the start
pub no-steps : (cnf : Cnf) (lost : List (Option ℕ)) → lost ≡ replicate (cnf.vars + 1) None → IsSoFar cnf [] lost
no-steps cnf lost is = record {
  follow = tt;
  size = ap (λ (z : List (Option ℕ)). length z) is ∙ length-replicate (cnf.vars + 1) None;
  named = λ x id e. absurd (none-some id (sym (ap (λ z. option_at z x) is ∙ blank (cnf.vars + 1) x None) ∙ e));
}

-- rows of one block after another
pub blocks-none : (start : List ℕ) → slice_index start 0 ≡ 0 → (block_of : List ℕ) → block_of ≡ [] → AreBlocksOf start (slice_index start 0) block_of
blocks-none start e block_of is = record { size = ap (λ (z : List ℕ). length z) is ∙ sym e; each = λ i l. absurd (omega (arith, l, e)) }

pub blocks-more : (start : List ℕ) (v i : ℕ) (block_of : List ℕ) → AreBlocksOf start i block_of → IsBlockNumber start v → In start v i → AreBlocksOf start (i + 1) (block_of ++ v ∷ [])
blocks-more start v i block_of h b hi = record {
  size = (let l = length-append block_of (v ∷ []) in let s = h.size in omega (arith, l, s));
  each = λ j l. go j l (ℕ_discrete j i);
}
  where
    go : (j : ℕ) → j < i + 1 → Dec (j ≡ i) → IsBlockNumber start (slice_index (block_of ++ v ∷ []) j) × In start (slice_index (block_of ++ v ∷ []) j) j
    go j l (yes e) =
        let k : j ≡ length block_of + 0 = (let s = h.size in omega (arith, e, s)) in
        let at : slice_index (block_of ++ v ∷ []) j ≡ v = ap (λ z. get_or (block_of ++ v ∷ []) z 0) k ∙ get_or-append-add block_of (v ∷ []) 0 0 in
        subst (λ z. IsBlockNumber start z × In start z j) (sym at) (b, subst (λ z. In start v z) (sym e) hi)
    go j l (no d) =
        let at : slice_index (block_of ++ v ∷ []) j ≡ slice_index block_of j = get_or_append_left block_of (v ∷ []) 0 j (let s = h.size in omega (arith, l, d, s)) in
        subst (λ z. IsBlockNumber start z × In start z j) (sym at) (h.each j (omega (arith, l, d)))

-- ---- the steps that are added

module _ (cnf : Cnf) (g : Graph) (r : IsReadTo cnf g) (steps : List Step) (lost : List (Option ℕ)) (sf : IsSoFar cnf steps lost) (id : ℕ) (is : id ≡ length cnf.clauses + length steps + 1) (steps_new : List Step) (lits : List Lit) (hints : List ℤ)
    (grown : steps_new ≡ steps ++ Add id (record { lits = lits }) hints ∷ []) where
  pub lose-step : (x last : ℕ) → IsMet cnf steps g.pairs.items x last → AreHintsOf g x last hints → lits ≡ negative x ∷ [] → x < length lost → IsSoFar cnf steps_new (set lost x (Some id)) × Keeps cnf steps steps_new
  lose-step x last met are el l =
      let pass = subst (λ z. HintsPass (numbered (all_clauses cnf steps)) (map opposite z) hints) (sym el) (lose-pass cnf g r steps lost sf x last met hints are) in
      let more = step-so_far cnf steps lost sf id (record { lits = lits }) hints is pass in
      let here = step-id cnf steps lost sf id (record { lits = lits }) hints is pass in (
        subst (λ z. IsSoFar cnf z (set lost x (Some id))) (sym grown) (lost-set cnf (steps ++ Add id (record { lits = lits }) hints ∷ []) lost x id more l (subst (λ z. IsIdOf cnf (steps ++ Add id (record { lits = lits }) hints ∷ []) id z) el here)),
        subst (λ z. Keeps cnf steps z) (sym grown) (step-keeps cnf steps lost sf id (record { lits = lits }) hints is pass),
      )

  pub short-step : (v : ℕ) → IsBlockNumber g.start.items v → lits ≡ left_literals lost (vars-of cnf g r v) → hints ≡ lost_hints lost (vars-of cnf g r v) ++ pos (v + 1) ∷ [] → IsSoFar cnf steps_new lost × IsLeftOf cnf steps_new g lost v id
  short-step v b left are =
      let pass = subst (λ z. HintsPass (numbered (all_clauses cnf steps)) (map opposite lits) z) (sym are) (subst (λ z. HintsPass (numbered (all_clauses cnf steps)) (map opposite z) (lost_hints lost (vars-of cnf g r v) ++ pos (v + 1) ∷ [])) (sym left) (short-pass cnf g r steps lost sf v b)) in
      let here = step-id cnf steps lost sf id (record { lits = lits }) hints is pass in (
        subst (λ z. IsSoFar cnf z lost) (sym grown) (step-so_far cnf steps lost sf id (record { lits = lits }) hints is pass),
        (lits, subst (λ z. IsIdOf cnf z id lits) (sym grown) here, λ m k. let x = left-each lost (vars-of cnf g r v) m (subst (λ z. Contains z m) left k) in let i = row-of-var cnf g r v x.0 x.1 in (i.0, i.1, ap (λ z. option_at lost z) i.2 ∙ x.2, x.3 ∙ ap positive (sym i.2))),
      )

pub both-ok : {A E : Type 0} {P Q R : Type 0} (r : Result A E) → (P → Q → R) → OnOk r P → OnOk r Q → OnOk r R
both-ok (Ok x) f p q = f p q
both-ok (Err e) f p q = tt

-- the row of a forced place, and its block
module _ (cnf : Cnf) (g : Graph) (r : IsReadTo cnf g) (block_of : List ℕ) (blocks : AreBlocksOf g.start.items (slice_index g.start.items g.blocks) block_of) (order : List ℕ) (q : ℕ) (forced : IsForced g.start.items g.edge.items order q) where
  abbrev forced-row : ℕ
  forced-row = slice_index order q

  abbrev forced-block : ℕ
  forced-block = slice_index block_of forced-row

  before-last : forced-row < slice_index g.start.items g.blocks
  before-last = go (ℕ_discrete (forced.0 + 1) g.blocks)
    where
      h : forced-row < slice_index g.start.items (forced.0 + 1)
      h = forced.2.1

      go : Dec (forced.0 + 1 ≡ g.blocks) → forced-row < slice_index g.start.items g.blocks
      go (yes e) = subst (λ z. forced-row < slice_index g.start.items z) e h
      go (no d) = let c = r.count in let b = forced.1 in let l = (rows-are cnf g r).rising (forced.0 + 1) g.blocks (omega (arith, b, c, d)) (omega (arith, c)) in let k = h in omega (arith, k, l)

  pub block-there : forced-row < length block_of
  block-there = let s = blocks.size in let l = before-last in omega (arith, s, l)

  pub its-block : IsBlockNumber g.start.items forced-block × In g.start.items forced-block forced-row
  its-block = blocks.each forced-row before-last

  pub row-there : forced-row < length g.var.items
  row-there = let w = rows-within cnf g r forced-block its-block.0 in let h : forced-row < slice_index g.start.items (forced-block + 1) = its-block.1.1 in omega (arith, w, h)

  pub its-var : (x : ℕ) → x ≡ get_or g.var.items forced-row x → x ≡ slice_index g.var.items forced-row
  its-var x e = read-at g.var.items forced-row x row-there e

  pub its-var-small : (x : ℕ) → x ≡ get_or g.var.items forced-row x → x ≤ cnf.vars
  its-var-small x e = let s = row-var-small cnf g r forced-block forced-row its-block.0 its-block.1 in let d = its-var x e in omega (arith, s, d)
