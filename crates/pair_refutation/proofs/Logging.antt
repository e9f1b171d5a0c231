-- Clauses under ids, and logs that grow by steps that follow.
use Rattle.std.proofs.Common.{◌≡◌, ◌⊎◌, inl, inr, ℕ, zero, suc, ◌+◌, ◌<◌, ◌≤◌, ℤ, pos, negsuc, List, [], ◌∷◌, ◌++◌, length, map, slice_get, refl, ap, sym, ◌∙◌, subst, arith, Option, Some, Contains, append_assoc, length-append}
use Rattle.std.proofs.lemmas.List.{append-nil, length-map}
use Rattle.std.proofs.lemmas.List.Elements.{Contains-append_cases}
use Rattle.std.proofs.lemmas.Map.{update_here, update_apart}
use Rattle.std.proofs.lemmas.Option.{slice_get_within}
use Rattle.cqa_value.proofs.Words.{Contains-slice_get, slice_get-append_left}
use Rattle.cnf_form.specs.declared.formula.Lit.{Lit}
use Rattle.cnf_form.specs.declared.formula.Clause.{Clause}
use Rattle.cnf_form.specs.declared.formula.Cnf.{Cnf}
use Rattle.cnf_form.specs.declared.log.Step.{Step}
use Rattle.cnf_form.specs.declared.log.Step.TheVariants.{Add, Delete}
use Rattle.cnf_form.specs.Literals.{literals, opposite}
use Rattle.cnf_form.specs.Logs.{Live, HintsPass, StepsPass, Refutes, added, numbered, with_clause, AreConsecutive}
use Rattle.cqa_model.proofs.Classic.{mem-nil}
use Rattle.pair_refutation.specs.declared.graph.Pair.{Pair}
use Rattle.pair_refutation.specs.Graph.{positive, negative, not_both, graph_clauses, block_at}
use Rattle.pair_refutation.specs.Edges.{pair_at}
use Rattle.pair_refutation.specs.Refuting.{all_clauses, StepFollows, StepsFollow, IsIdOf, IsSoFar, Keeps}

-- ---- clauses by their ids

get-behind : {A : Type 0} (xs ys : List A) (k : ℕ) → slice_get (xs ++ ys) (length xs + k) ≡ slice_get ys k
get-behind {A} [] ys k = let e : length {A = A} [] + k ≡ k = omega arith in ap (λ z. slice_get ys z) e
get-behind (x ∷ xs) ys k = let e : length (x ∷ xs) + k ≡ suc (length xs + k) = omega arith in ap (λ z. slice_get (x ∷ (xs ++ ys)) z) e ∙ get-behind xs ys k

pub id-more : (cs ds : List (List Lit)) (id : ℕ) (c : List Lit) → numbered cs id ≡ Some c → numbered (cs ++ ds) id ≡ Some c
id-more cs ds zero c e = e
id-more cs ds (suc k) c e = slice_get-append_left cs ds k c e

id-below : (cs : List (List Lit)) (id : ℕ) (c : List Lit) → numbered cs id ≡ Some c → id ≤ length cs
id-below cs zero c e = omega arith
id-below cs (suc k) c e = let l = slice_get_within cs k c e in omega (arith, l)

id-next : (cs : List (List Lit)) (c : List Lit) → numbered (cs ++ c ∷ []) (length cs + 1) ≡ Some c
id-next cs c = let e : length cs + 1 ≡ suc (length cs + 0) = omega arith in ap (λ z. numbered (cs ++ c ∷ []) z) e ∙ get-behind cs (c ∷ []) 0

pub id-clause : (cs : List (List Lit)) (id : ℕ) (c : List Lit) → numbered cs id ≡ Some c → Contains cs c
id-clause cs zero c e = (cc)
id-clause cs (suc k) c e = Contains-slice_get cs k c e

-- a clause of one more is the new one, or one of those before
id-cases : (cs : List (List Lit)) (d : List Lit) (id : ℕ) (c : List Lit) → numbered (cs ++ d ∷ []) id ≡ Some c → (numbered cs id ≡ Some c) ⊎ ((id ≡ length cs + 1) × (c ≡ d))
id-cases cs d zero c e = (cc)
id-cases cs d (suc k) c e = go cs k e
  where
    go : (xs : List (List Lit)) (j : ℕ) → slice_get (xs ++ d ∷ []) j ≡ Some c → (slice_get xs j ≡ Some c) ⊎ ((suc j ≡ length xs + 1) × (c ≡ d))
    go [] zero h = inr (refl, (cc))
    go [] (suc j) h = absurd (mem-nil c (Contains-slice_get [] j c h))
    go (x ∷ xs) zero h = inl h
    go (x ∷ xs) (suc j) h = elim (go xs j h) [ inl p ↦ inl p | inr p ↦ inr ((let n = p.0 in omega (arith, n)), p.1) ]

-- the clauses of a graph: those of its blocks first
pub block-id : (blocks : List (List ℕ)) (pairs : List Pair) (v : ℕ) → v < length blocks → numbered (graph_clauses blocks pairs) (v + 1) ≡ Some (map positive (block_at blocks v))
block-id blocks pairs v l =
    let e : v + 1 ≡ suc v = omega arith in
    ap (λ z. numbered (graph_clauses blocks pairs) z) e ∙ slice_get-append_left (map (map positive) blocks) (map not_both pairs) v (map positive (block_at blocks v)) (at-map blocks v l)
  where
    at-map : (bs : List (List ℕ)) (k : ℕ) → k < length bs → slice_get (map (map positive) bs) k ≡ Some (map positive (block_at bs k))
    at-map [] k h = absurd (omega (arith, h))
    at-map (b ∷ bs) zero h = refl
    at-map (b ∷ bs) (suc k) h = at-map bs k (omega (arith, h))

pub pair-id : (blocks : List (List ℕ)) (pairs : List Pair) (t : ℕ) → t < length pairs → numbered (graph_clauses blocks pairs) (length blocks + t + 1) ≡ Some (not_both (pair_at pairs t))
pair-id blocks pairs t l =
    let n = length-map blocks (map positive) in
    let e : length blocks + t + 1 ≡ suc (length (map (map positive) blocks) + t) = omega (arith, n) in
    ap (λ z. numbered (graph_clauses blocks pairs) z) e ∙ (get-behind (map (map positive) blocks) (map not_both pairs) t ∙ at-map pairs t l)
  where
    at-map : (ps : List Pair) (k : ℕ) → k < length ps → slice_get (map not_both ps) k ≡ Some (not_both (pair_at ps k))
    at-map [] k h = absurd (omega (arith, h))
    at-map (p ∷ ps) zero h = refl
    at-map (p ∷ ps) (suc k) h = at-map ps k (omega (arith, h))

-- ---- steps that follow

added-append : (xs ys : List Step) → added (xs ++ ys) ≡ added xs ++ added ys
added-append [] ys = refl
added-append (Add id clause hints ∷ xs) ys = ap (λ z. clause.lits ∷ z) (added-append xs ys)
added-append (Delete ids ∷ xs) ys = added-append xs ys

all-more : (cnf : Cnf) (steps : List Step) (s : Step) → all_clauses cnf (steps ++ s ∷ []) ≡ all_clauses cnf steps ++ added (s ∷ [])
all-more cnf steps s = ap (λ z. literals cnf.clauses ++ z) (added-append steps (s ∷ [])) ∙ sym (append_assoc (literals cnf.clauses) (added steps) (added (s ∷ [])))

pub follow-more : (cs : List (List Lit)) (steps : List Step) (s : Step) → StepsFollow cs steps → StepFollows (cs ++ added steps) s → StepsFollow cs (steps ++ s ∷ [])
follow-more cs [] s h p = (subst (λ z. StepFollows z s) (append-nil cs) p, tt)
follow-more cs (Add id clause hints ∷ steps) s h p = (h.0, follow-more (cs ++ clause.lits ∷ []) steps s h.1 (subst (λ z. StepFollows z s) (sym (append_assoc cs (clause.lits ∷ []) (added steps))) p))
follow-more cs (Delete ids ∷ steps) s h p = absurd h.0

-- as many clauses as steps were added
pub added-count : (cs : List (List Lit)) (steps : List Step) → StepsFollow cs steps → length (cs ++ added steps) ≡ length cs + length steps
added-count cs [] h = let e : length (cs ++ []) ≡ length cs = ap (λ (z : List (List Lit)). length z) (append-nil cs) in omega (arith, e)
added-count cs (Add id clause hints ∷ steps) h =
    let r = added-count (cs ++ clause.lits ∷ []) steps h.1 in
    let l = length-append cs (clause.lits ∷ []) in
    let e = ap (λ (z : List (List Lit)). length z) (append_assoc cs (clause.lits ∷ []) (added steps)) in
    omega (arith, r, l, e)
added-count cs (Delete ids ∷ steps) h = absurd h.0

abbrev Covers : Live → List (List Lit) → Type 0
Covers live cs = (id : ℕ) (c : List Lit) → numbered cs id ≡ Some c → live id ≡ Some c

hints-live : (live : Live) (cs : List (List Lit)) (held : List Lit) (hints : List ℤ) → Covers live cs → HintsPass (numbered cs) held hints → HintsPass live held hints
hints-live live cs held [] cover h = h
hints-live live cs held (negsuc n ∷ hints) cover h = h
hints-live live cs held (pos id ∷ hints) cover h = (h.0, cover id h.0 h.1, elim h.2 [ inl d ↦ inl d | inr u ↦ inr (u.0, u.1, hints-live live cs (u.0 ∷ held) hints cover u.2) ])

covers-more : (live : Live) (cs : List (List Lit)) (id : ℕ) (c : List Lit) → id ≡ length cs + 1 → Covers live cs → Covers (with_clause live id c) (cs ++ c ∷ [])
covers-more live cs id c e cover k d h = elim (id-cases cs c k d h) [
  | inl b ↦ update_apart live id (Some c) k (λ q. let l = id-below cs k d b in omega (arith, q, e, l)) ∙ cover k d b
  | inr b ↦ ap (λ z. with_clause live id c z) (b.0 ∙ sym e) ∙ (update_here live id (Some c) ∙ ap Some (sym b.1))
]

steps-pass : (live : Live) (cs : List (List Lit)) (top : ℕ) (steps : List Step) → Covers live cs → top ≡ length cs → StepsFollow cs steps → StepsPass live top steps
steps-pass live cs top [] cover t h = tt
steps-pass live cs top (Add id clause hints ∷ steps) cover t h = (
  (let n = h.0.0 in omega (arith, n, t), inr (hints-live live cs (map opposite clause.lits) hints cover h.0.1)),
  steps-pass (with_clause live id clause.lits) (cs ++ clause.lits ∷ []) id steps (covers-more live cs id clause.lits h.0.0 cover) (let n = h.0.0 in let l = length-append cs (clause.lits ∷ []) in omega (arith, n, l)) h.1,
)
steps-pass live cs top (Delete ids ∷ steps) cover t h = absurd h.0

pub follow-ids : (cs : List (List Lit)) (n : ℕ) (steps : List Step) → n ≡ length cs → StepsFollow cs steps → AreConsecutive n steps
follow-ids cs n [] e h = tt
follow-ids cs n (Add id clause hints ∷ steps) e h = (
  h.0.0 ∙ ap (λ k. k + 1) (sym e),
  follow-ids (cs ++ clause.lits ∷ []) (n + 1) steps (let l = length-append cs (clause.lits ∷ []) in omega (arith, e, l)) h.1,
)
follow-ids cs n (Delete ids ∷ steps) e h = absurd h.0

literals-count : (cnf : Cnf) → length cnf.clauses ≡ length (literals cnf.clauses)
literals-count cnf = sym (length-map cnf.clauses (λ (c : Clause). c.lits))

-- a log that follows and has the empty clause refutes a formula that hasn't
pub follow-refutes : (cnf : Cnf) (steps : List Step) → StepsFollow (literals cnf.clauses) steps → (Contains (literals cnf.clauses) [] → ⊥) → (id : ℕ) → numbered (all_clauses cnf steps) id ≡ Some [] → Refutes cnf steps
follow-refutes cnf steps h none id e = (
  steps-pass (numbered (literals cnf.clauses)) (literals cnf.clauses) (length cnf.clauses) steps (λ k c g. g) (literals-count cnf) h,
  elim (Contains-append_cases (literals cnf.clauses) (added steps) [] (id-clause (all_clauses cnf steps) id [] e)) [ inl b ↦ absurd (none b) | inr b ↦ b ],
)

pub follow-consecutive : (cnf : Cnf) (steps : List Step) → StepsFollow (literals cnf.clauses) steps → AreConsecutive (length cnf.clauses) steps
follow-consecutive cnf steps h = follow-ids (literals cnf.clauses) (length cnf.clauses) steps (literals-count cnf) h

-- ---- one more step

module _ (cnf : Cnf) (steps : List Step) (lost : List (Option ℕ)) (sf : IsSoFar cnf steps lost) (id : ℕ) (clause : Clause) (hints : List ℤ) (is : id ≡ length cnf.clauses + length steps + 1)
    (passes : HintsPass (numbered (all_clauses cnf steps)) (map opposite clause.lits) hints) where
  abbrev new : List Step
  new = steps ++ Add id clause hints ∷ []

  count : id ≡ length (all_clauses cnf steps) + 1
  count = let a = added-count (literals cnf.clauses) steps sf.follow in let b = literals-count cnf in omega (arith, is, a, b)

  pub step-keeps : Keeps cnf steps new
  step-keeps k c e = subst (λ z. numbered z k ≡ Some c) (sym (all-more cnf steps (Add id clause hints))) (id-more (all_clauses cnf steps) (clause.lits ∷ []) k c e)

  pub step-id : IsIdOf cnf new id clause.lits
  step-id = subst (λ z. numbered z id ≡ Some clause.lits) (sym (all-more cnf steps (Add id clause hints))) (ap (λ z. numbered (all_clauses cnf steps ++ clause.lits ∷ []) z) count ∙ id-next (all_clauses cnf steps) clause.lits)

  pub step-so_far : IsSoFar cnf new lost
  step-so_far = record {
    follow = follow-more (literals cnf.clauses) steps (Add id clause hints) sf.follow (count, passes);
    size = sf.size;
    named = λ x k e. step-keeps k (negative x ∷ []) (sf.named x k e);
  }
