-- The blocks and pairs of clauses, clause after clause.
use Rattle.std.proofs.Common.{◌≡◌, ℕ, suc, ◌+◌, ◌<◌, ◌≤◌, inl, inr, List, [], ◌∷◌, ◌++◌, length, get_or, map, flat_map, take, drop, refl, ap, sym, ◌∙◌, subst, arith, cond, Bool, true, false, Contains, length-append}
use Rattle.std.proofs.lemmas.Grind.{flat_map-append}
use Rattle.std.proofs.lemmas.List.{append-nil, take_all, take_more, take-append-drop, map_push, map-append, length-map, get_or_default}
use Rattle.cnf_form.specs.declared.formula.Lit.{Lit}
use Rattle.cnf_form.specs.declared.formula.Clause.{Clause}
use Rattle.cnf_form.specs.Literals.{literals}
use Rattle.std.proofs.lemmas.List.Elements.{Contains-append_cases}
use Rattle.cqa_value.proofs.Words.{Contains-from_map}
use Rattle.weak_pairs.specs.Starts.{ends_from, starts_from}
use Rattle.weak_pairs.proofs.Begins.{ends-append, flat-append}
use Rattle.pair_refutation.specs.declared.graph.Pair.{Pair}
use Rattle.pair_refutation.specs.Graph.{positive, not_both, graph_clauses, is_positive, block_in, blocks_in, pair_in, pairs_in, all_of, block_at}
use Rattle.pair_refutation.specs.Formulas.{AreGraphClauses}

pub literals-more : (cs : List Clause) (i : ℕ) (clause : Clause) → i < length cs → clause ≡ get_or cs i clause → literals (take (i + 1) cs) ≡ literals (take i cs) ++ clause.lits ∷ []
literals-more cs i clause l e = ap literals (take_more cs i clause l ∙ ap (λ z. take i cs ++ z ∷ []) (sym e)) ∙ map_push (λ (c : Clause). c.lits) (take i cs) clause

all-one : (b : Bool) (bs : List (List ℕ)) (v : List ℕ) → all_of (bs ++ cond b (v ∷ []) []) ≡ all_of bs ++ cond b v []
all-one true bs v = flat-append bs (v ∷ []) ∙ ap (λ z. all_of bs ++ z) (append-nil v)
all-one false bs v = ap all_of (append-nil bs) ∙ sym (append-nil (all_of bs))

starts-one : (b : Bool) (bs : List (List ℕ)) (v : List ℕ) (n : ℕ) → n ≡ length (all_of bs) + length v → starts_from 0 (bs ++ cond b (v ∷ []) []) ≡ starts_from 0 bs ++ cond b (n ∷ []) []
starts-one true bs v n e = ap (λ z. 0 ∷ z) (ends-append 0 bs (v ∷ []) ∙ ap (λ z. ends_from 0 bs ++ z ∷ []) (let z : 0 + length (all_of bs) + length v ≡ n = omega (arith, e) in z))
starts-one false bs v n e = ap (starts_from 0) (append-nil bs) ∙ sym (append-nil (starts_from 0 bs))

module _ (cs : List Clause) (i : ℕ) (clause : Clause) (l : i < length cs) (is : clause ≡ get_or cs i clause) where
  abbrev before : List (List ℕ)
  before = blocks_in (literals (take i cs))

  abbrev vars : List ℕ
  vars = map (λ (x : Lit). x.var) clause.lits

  more : {A : Type 0} (f : List Lit → List A) → flat_map f (literals (take (i + 1) cs)) ≡ flat_map f (literals (take i cs)) ++ f clause.lits
  more f = ap (flat_map f) (literals-more cs i clause l is) ∙ (flat_map-append f (literals (take i cs)) (clause.lits ∷ []) ∙ ap (λ z. flat_map f (literals (take i cs)) ++ z) (append-nil (f clause.lits)))

  blocks-next : blocks_in (literals (take (i + 1) cs)) ≡ before ++ block_in clause.lits
  blocks-next = more block_in

  pub var-next : (old new : List ℕ) → old ≡ all_of before → new ≡ old ++ cond (is_positive clause.lits) vars [] → new ≡ all_of (blocks_in (literals (take (i + 1) cs)))
  var-next old new e f = f ∙ (ap (λ z. z ++ cond (is_positive clause.lits) vars []) e ∙ (sym (all-one (is_positive clause.lits) before vars) ∙ ap all_of (sym blocks-next)))

  pub start-next-is : (old new var : List ℕ) → var ≡ all_of before → old ≡ starts_from 0 before → new ≡ old ++ cond (is_positive clause.lits) ((length var + length clause.lits) ∷ []) [] →
      new ≡ starts_from 0 (blocks_in (literals (take (i + 1) cs)))
  start-next-is old new var ev e f =
      f ∙ (ap (λ z. z ++ cond (is_positive clause.lits) ((length var + length clause.lits) ∷ []) []) e
      ∙ (sym (starts-one (is_positive clause.lits) before vars (length var + length clause.lits) (let a = ap (λ (z : List ℕ). length z) ev in let b = length-map clause.lits (λ (x : Lit). x.var) in omega (arith, a, b)))
      ∙ ap (starts_from 0) (sym blocks-next)))

  pub few-next : (n : ℕ) → length (all_of (blocks_in (literals cs))) < n → (var : List ℕ) → var ≡ all_of before → is_positive clause.lits ≡ true → length var + length clause.lits < n
  few-next n few var ev pos =
      let cut : literals cs ≡ literals (take (i + 1) cs) ++ literals (drop (i + 1) cs) = ap literals (sym (take-append-drop (i + 1) cs)) ∙ map-append (λ (c : Clause). c.lits) (take (i + 1) cs) (drop (i + 1) cs) in
      let all : all_of (blocks_in (literals cs)) ≡ all_of (blocks_in (literals (take (i + 1) cs))) ++ all_of (blocks_in (literals (drop (i + 1) cs))) =
      ap (λ z. all_of (blocks_in z)) cut ∙ (ap all_of (flat_map-append block_in (literals (take (i + 1) cs)) (literals (drop (i + 1) cs))) ∙ flat-append (blocks_in (literals (take (i + 1) cs))) (blocks_in (literals (drop (i + 1) cs)))) in
      let a = ap (λ (z : List ℕ). length z) all ∙ length-append (all_of (blocks_in (literals (take (i + 1) cs)))) (all_of (blocks_in (literals (drop (i + 1) cs)))) in
      let one : all_of (blocks_in (literals (take (i + 1) cs))) ≡ all_of before ++ vars = ap all_of blocks-next ∙ (all-one (is_positive clause.lits) before vars ∙ ap (λ b. all_of before ++ cond b vars []) pos) in
      let b = ap (λ (z : List ℕ). length z) one ∙ length-append (all_of before) vars in
      let c = length-map clause.lits (λ (x : Lit). x.var) in
      let d = ap (λ (z : List ℕ). length z) ev in
      omega (arith, few, a, b, c, d)

  pub pairs-next : (old new : List Pair) → old ≡ pairs_in (literals (take i cs)) → new ≡ old ++ pair_in clause.lits → new ≡ pairs_in (literals (take (i + 1) cs))
  pairs-next old new e f = f ∙ (ap (λ z. z ++ pair_in clause.lits) e ∙ sym (more pair_in))

-- ---- the clauses of a graph

map-var : (xs : List ℕ) → map (λ (l : Lit). l.var) (map positive xs) ≡ xs
map-var [] = refl
map-var (x ∷ xs) = ap (λ z. x ∷ z) (map-var xs)

blocks-of-blocks : (bs : List (List ℕ)) → ((v : ℕ) → v < length bs → 0 < length (block_at bs v)) → blocks_in (map (map positive) bs) ≡ bs
blocks-of-blocks [] some = refl
blocks-of-blocks ([] ∷ bs) some = let l : 0 < 0 = some 0 (omega arith) in absurd (omega (arith, l))
blocks-of-blocks ((x ∷ xs) ∷ bs) some = ap (λ z. (x ∷ z) ∷ blocks_in (map (map positive) bs)) (map-var xs) ∙ ap (λ z. (x ∷ xs) ∷ z) (blocks-of-blocks bs (λ v l. some (suc v) (omega (arith, l))))

pairs-of-blocks : (bs : List (List ℕ)) → pairs_in (map (map positive) bs) ≡ []
pairs-of-blocks [] = refl
pairs-of-blocks (b ∷ bs) = ap (λ z. z ++ pairs_in (map (map positive) bs)) (no-pair b) ∙ pairs-of-blocks bs
  where
    no-pair : (xs : List ℕ) → pair_in (map positive xs) ≡ []
    no-pair [] = refl
    no-pair (x ∷ []) = refl
    no-pair (x ∷ y ∷ []) = refl
    no-pair (x ∷ y ∷ z ∷ xs) = refl

blocks-of-pairs : (ps : List Pair) → blocks_in (map not_both ps) ≡ []
blocks-of-pairs [] = refl
blocks-of-pairs (p ∷ ps) = blocks-of-pairs ps

pairs-of-pairs : (ps : List Pair) → pairs_in (map not_both ps) ≡ ps
pairs-of-pairs [] = refl
pairs-of-pairs (p ∷ ps) = ap (λ z. p ∷ z) (pairs-of-pairs ps)

module _ (bs : List (List ℕ)) (ps : List Pair) (some : (v : ℕ) → v < length bs → 0 < length (block_at bs v)) where
  graph-blocks : blocks_in (graph_clauses bs ps) ≡ bs
  graph-blocks = flat_map-append block_in (map (map positive) bs) (map not_both ps) ∙ (ap (λ z. z ++ blocks_in (map not_both ps)) (blocks-of-blocks bs some) ∙ (ap (λ z. bs ++ z) (blocks-of-pairs ps) ∙ append-nil bs))

  graph-pairs : pairs_in (graph_clauses bs ps) ≡ ps
  graph-pairs = flat_map-append pair_in (map (map positive) bs) (map not_both ps) ∙ (ap (λ z. z ++ pairs_in (map not_both ps)) (pairs-of-blocks bs) ∙ pairs-of-pairs ps)

  pub graph-some : (c : List Lit) → Contains (graph_clauses bs ps) c → 0 < length c
  graph-some c m = elim (Contains-append_cases (map (map positive) bs) (map not_both ps) c m) [
    | inl b ↦ let p = Contains-from_map (map positive) bs c b in let v = p.1 in
        let l = some v.0 v.1 in
        let e : block_at bs v.0 ≡ p.0 = get_or_default bs v.0 [] p.0 v.1 ∙ v.2 in
        subst (λ z. 0 < length z) p.2 (let k = length-map (p.0) positive in let n = ap (λ (z : List ℕ). length z) e in omega (arith, l, k, n))
    | inr b ↦ let p = Contains-from_map not_both ps c b in subst (λ z. 0 < length z) p.2 (omega arith)
  ]

-- what is read of a graph's clauses is the graph
module _ (vars : ℕ) (cs : List Clause) (h : AreGraphClauses vars (literals cs)) where
  all-read : blocks_in (literals cs) ≡ h.blocks
  all-read = ap blocks_in h.are ∙ graph-blocks h.blocks h.pairs h.graph.some

  pub blocks-read : (i : ℕ) → length cs ≤ i → blocks_in (literals (take i cs)) ≡ h.blocks
  blocks-read i l = ap (λ z. blocks_in (literals z)) (take_all i cs l) ∙ all-read

  pub vars-few : length (all_of (blocks_in (literals cs))) ≤ vars
  vars-few = subst (λ z. length (all_of z) ≤ vars) (sym all-read) h.graph.few

  pub pairs-read : pairs_in (literals cs) ≡ h.pairs
  pairs-read = ap pairs_in h.are ∙ graph-pairs h.blocks h.pairs h.graph.some
