-- A formula that no assignment satisfies is refuted by all clauses over its variables: those of all variables each follow from a
-- clause that they falsify, and each other from two with one variable more.
use Rattle.std.proofs.Common.{◌≡◌, ℕ, zero, suc, ◌+◌, ◌<◌, ◌≤◌, ◌⊎◌, inl, inr, pos, Bool, true, false, Some, List, [], ◌∷◌, ◌++◌, length, map, refl, sym, ap, ◌∙◌, subst, arith, Contains, append_assoc}
use Rattle.std.proofs.Math.Bool.{Bool-discrete}
use Rattle.std.proofs.lemmas.List.{append-nil, length-map}
use Rattle.std.proofs.lemmas.Map.{update_here, update_apart}
use native.Mathlib.Decide.{ℕ_discrete}
use Rattle.cqa_value.proofs.Words.{mem-head, mem-tail, mem-nil, mem-cases, Contains-from_map, is_yes, yes_of, no_of}
use Rattle.cqa_model.proofs.Classic.{dec_some, find_in}
use Rattle.cqa_model.proofs.Values.{dec_by}
use Rattle.cnf_form.specs.declared.formula.Lit.{Lit}
use Rattle.cnf_form.specs.declared.log.Step.{Step}
use Rattle.cnf_form.specs.declared.log.Step.TheVariants.{Add, Delete}
use Rattle.cnf_form.specs.Literals.{literals, positive, negative, negated, opposite, AllDenied, IsUnit, MakesTrue, Satisfies, SatisfiesAll}
use Rattle.cnf_form.specs.Logs.{Live, numbered, with_clause, AdditionPasses, HintsPass, StepsPass, added, AreConsecutive}
use Rattle.cnf_form.proofs.Lits.{opposite-opposite, opposites-twice, equal_or_not}
use Rattle.existence_law.proofs.NewClauses.{AreLive}
use Rattle.existence_law.proofs.Spending.{all_live}
use Rattle.existence_law.specs.Refutations.{RefutationsExist}

-- ---- steps that add a clause

-- Steps over live clauses, up to an id, that add a clause and go on: what is live then, the last id, and the clause's.
record Derives (live : Live) (top : ℕ) (c : List Lit) : Type 0 where
  steps : List Step
  after : Live
  last : ℕ
  id : ℕ
  passes : (more : List Step) → StepsPass after last more → StepsPass live top (steps ++ more)
  follows : (more : List Step) → AreConsecutive last more → AreConsecutive top (steps ++ more)
  grows : top ≤ last
  stays : (k : ℕ) → k ≤ top → after k ≡ live k
  known : id ≤ last
  there : after id ≡ Some c
  is_added : Contains (added steps) c

added-behind : (first behind : List Step) (c : List Lit) → Contains (added behind) c → Contains (added (first ++ behind)) c
added-behind [] behind c m = m
added-behind (Add id clause hints ∷ first) behind c m = mem-tail c clause.lits (added (first ++ behind)) (added-behind first behind c m)
added-behind (Delete ids ∷ first) behind c m = added-behind first behind c m

one_step : (live : Live) (top : ℕ) (c : List Lit) (hints : List _) → AdditionPasses live c hints → Derives live top c
one_step live top c hints p = record {
  steps = Add (top + 1) (record { lits = c }) hints ∷ [];
  after = with_clause live (top + 1) c;
  last = top + 1;
  id = top + 1;
  passes = λ more h. ((omega arith, p), h);
  follows = λ more h. (refl, h);
  grows = omega arith;
  stays = λ k l. update_apart live (top + 1) (Some c) k (λ e. absurd (omega (arith, l, e)));
  known = omega arith;
  there = update_here live (top + 1) (Some c);
  is_added = mem-head c [];
}

in_turn : (live : Live) (top : ℕ) (b c : List Lit) (d : Derives live top b) → Derives d.after d.last c → Derives live top c
in_turn live top b c d e = record {
  steps = d.steps ++ e.steps;
  after = e.after;
  last = e.last;
  id = e.id;
  passes = λ more h. subst (StepsPass live top) (sym (append_assoc d.steps e.steps more)) (d.passes (e.steps ++ more) (e.passes more h));
  follows = λ more h. subst (AreConsecutive top) (sym (append_assoc d.steps e.steps more)) (d.follows (e.steps ++ more) (e.follows more h));
  grows = let a = d.grows in let b = e.grows in omega (arith, a, b);
  stays = λ k l. e.stays k (let a = d.grows in omega (arith, a, l)) ∙ d.stays k l;
  known = e.known;
  there = e.there;
  is_added = added-behind d.steps e.steps c e.is_added;
}

-- ---- literals

dec_lit : (a b : Lit) → Dec (a ≡ b)
dec_lit a b = elim (equal_or_not a b) [ inl e ↦ yes e | inr f ↦ no f ]

dec_has : (path : List Lit) (l : Lit) → Dec (Contains path l)
dec_has path l = dec_by (λ p. subst (Contains path) (sym p.2) p.1) (λ m. (l, m, refl)) (dec_some (λ m. l ≡ m) (dec_lit l) path)

-- the opposites of literals are all denied by them
denied : (path : List Lit) → AllDenied path (map opposite path)
denied path m h = let p = Contains-from_map opposite path m h in subst (Contains path) (sym (opposite-opposite p.0) ∙ ap opposite p.2) p.1

live_after : (live : Live) (top : ℕ) (cs : List (List Lit)) (b : List Lit) (d : Derives live top b) → AreLive live top cs → AreLive d.after d.last cs
live_after live top cs b d h c m = let p = h c m in (p.0, (let l = p.1 in let g = d.grows in omega (arith, l, g)), d.stays p.0 p.1 ∙ p.2)

-- ---- the clause of a path: one literal of each variable from k on

module _ (cs : List (List Lit)) (n : ℕ) (small : (c : List Lit) → Contains cs c → (l : Lit) → Contains c l → l.var < n) (unsat : (v : ℕ → Bool) → SatisfiesAll v cs → ⊥) where
  abbrev IsAbove : ℕ → List Lit → Type 0
  IsAbove k path = (l : Lit) → Contains path l → k ≤ l.var

  abbrev HasEach : ℕ → List Lit → Type 0
  HasEach k path = (i : ℕ) → k ≤ i → i < n → Contains path (positive i) ⊎ Contains path (negative i)

  -- the assignment of a path
  abbrev chosen : List Lit → ℕ → Bool
  chosen path i = is_yes (dec_has path (positive i))

  -- a literal of a variable, with the other sign
  abbrev turned : ℕ → Bool → Lit
  turned i b = record { var = i; positive = negated b }

  -- a literal that it makes false has its opposite there
  opposed : (path : List Lit) → HasEach 0 path → (l : Lit) → l.var < n → (MakesTrue (chosen path) l → ⊥) → Contains path (opposite l)
  opposed path each l inside f = go l.positive refl
    where
      go : (b : Bool) → l.positive ≡ b → Contains path (opposite l)
      go true e = elim (each l.var (omega arith) inside) [
        | inl m ↦ absurd (f (yes_of (dec_has path (positive l.var)) m ∙ sym e))
        | inr m ↦ subst (Contains path) (ap (turned l.var) (sym e)) m
      ]
      go false e = elim (dec_has path (positive l.var)) [
        | yes m ↦ subst (Contains path) (ap (turned l.var) (sym e)) m
        | no g ↦ absurd (f (no_of (dec_has path (positive l.var)) g ∙ sym e))
      ]

  -- so some clause is all denied by a path of all variables
  falsified : (path : List Lit) → HasEach 0 path → (c : List Lit) × Contains cs c × AllDenied path c
  falsified path each = go (find_in (Satisfies (chosen path)) (λ c. dec_some (MakesTrue (chosen path)) (λ l. Bool-discrete (chosen path l.var) l.positive) c) cs)
    where
      go : ((c : List Lit) → Contains cs c → Satisfies (chosen path) c) ⊎ ((c : List Lit) × Contains cs c × (Satisfies (chosen path) c → ⊥)) → (c : List Lit) × Contains cs c × AllDenied path c
      go (inl all) = absurd (unsat (chosen path) all)
      go (inr (c, m, f)) = (c, m, λ l h. opposed path each l (small c m l h) (λ t. f (l, h, t)))

  leaf : (path : List Lit) (live : Live) (top : ℕ) → AreLive live top cs → HasEach 0 path → Derives live top (map opposite path)
  leaf path live top h each =
      let f = falsified path each in
      let p = h f.0 f.1 in
      one_step live top (map opposite path) (pos p.0 ∷ []) (inr (subst (λ held. HintsPass live held (pos p.0 ∷ [])) (sym (opposites-twice path)) (f.0, p.2, inl f.2)))

  -- the two clauses with one variable more give the one without it
  resolved : (path : List Lit) (k : ℕ) (live : Live) (i j : ℕ) → IsAbove (suc k) path → live i ≡ Some (map opposite (positive k ∷ path)) → live j ≡ Some (map opposite (negative k ∷ path)) →
      HintsPass live path (pos i ∷ pos j ∷ [])
  resolved path k live i j above ei ej = (map opposite (positive k ∷ path), ei, inr (negative k, unit, (map opposite (negative k ∷ path), ej, inl last)))
    where
      unit : IsUnit path (map opposite (positive k ∷ path)) (negative k)
      unit = record {
        inside = mem-head (negative k) (map opposite path);
        free = λ m. let l : suc k ≤ k = above (positive k) m in absurd (omega arith);
        others = λ m h ne. elim (mem-cases m (negative k) (map opposite path) h) [ inl e ↦ absurd (ne (sym e)) | inr r ↦ denied path m r ];
      }

      last : AllDenied (negative k ∷ path) (map opposite (negative k ∷ path))
      last = denied (negative k ∷ path)

  joined : (path : List Lit) (k : ℕ) (live : Live) (top : ℕ) → IsAbove (suc k) path → (d : Derives live top (map opposite (positive k ∷ path))) →
      Derives d.after d.last (map opposite (negative k ∷ path)) → Derives live top (map opposite path)
  joined path k live top above d e = in_turn live top (map opposite (positive k ∷ path)) (map opposite path) d
      (in_turn d.after d.last (map opposite (negative k ∷ path)) (map opposite path) e
      (one_step e.after e.last (map opposite path) (pos d.id ∷ pos e.id ∷ [])
      (inr (subst (λ held. HintsPass e.after held (pos d.id ∷ pos e.id ∷ [])) (sym (opposites-twice path)) (resolved path k e.after d.id e.id above (e.stays d.id d.known ∙ d.there) e.there)))))

  lower : (path : List Lit) (k : ℕ) (l : Lit) → IsAbove (suc k) path → l.var ≡ k → IsAbove k (l ∷ path)
  lower path k l above e m h = elim (mem-cases m l path h) [
    | inl s ↦ subst (λ (x : Lit). k ≤ x.var) s (omega (arith, e))
    | inr r ↦ let a : suc k ≤ m.var = above m r in omega (arith, a)
  ]

  wider : (path : List Lit) (k : ℕ) (l : Lit) → HasEach (suc k) path → (l ≡ positive k) ⊎ (l ≡ negative k) → HasEach k (l ∷ path)
  wider path k l each s i low high = go (ℕ_discrete i k)
    where
      go : Dec (i ≡ k) → Contains (l ∷ path) (positive i) ⊎ Contains (l ∷ path) (negative i)
      go (yes e) = subst (λ z. Contains (l ∷ path) (positive z) ⊎ Contains (l ∷ path) (negative z)) (sym e) (elim s [
        | inl p ↦ inl (subst (Contains (l ∷ path)) p (mem-head l path))
        | inr p ↦ inr (subst (Contains (l ∷ path)) p (mem-head l path))
      ])
      go (no f) = elim (each i (omega (arith, low, f)) high) [ inl m ↦ inl (mem-tail (positive i) l path m) | inr m ↦ inr (mem-tail (negative i) l path m) ]

  tree : (k : ℕ) (path : List Lit) (live : Live) (top : ℕ) → AreLive live top cs → IsAbove k path → HasEach k path → Derives live top (map opposite path)
  tree zero path live top h above each = leaf path live top h each
  tree (suc k) path live top h above each =
      let d : Derives live top (map opposite (positive k ∷ path)) = tree k (positive k ∷ path) live top h (lower path k (positive k) above refl) (wider path k (positive k) each (inl refl)) in
      let e : Derives d.after d.last (map opposite (negative k ∷ path)) =
      tree k (negative k ∷ path) d.after d.last (live_after live top cs (map opposite (positive k ∷ path)) d h) (lower path k (negative k) above refl) (wider path k (negative k) each (inr refl)) in
      joined path k live top above d e

-- ---- the whole formula

-- a number above one of each item
above_all : {A : Type 0} (f : A → ℕ) (xs : List A) → (n : ℕ) × ((x : A) → Contains xs x → f x < n)
above_all f [] = (0, λ x m. absurd (mem-nil x m))
above_all f (y ∷ xs) =
    let r = above_all f xs in
    (suc (f y + r.0), λ x m. elim (mem-cases x y xs m) [ inl e ↦ (let s = ap f e in omega (arith, s)) | inr h ↦ (let l = r.1 x h in omega (arith, l)) ])

pub refutations_exist : RefutationsExist
refutations_exist cnf unsat =
    let d = derived in (
      d.steps,
      (
        (
          subst (StepsPass (numbered (literals cnf.clauses)) (length cnf.clauses)) (append-nil d.steps) (d.passes [] tt),
          d.is_added,
        ),
        subst (AreConsecutive (length cnf.clauses)) (append-nil d.steps) (d.follows [] tt),
      ),
    )
  where
    own : (c : List Lit) → (n : ℕ) × ((l : Lit) → Contains c l → l.var < n)
    own c = above_all (λ (l : Lit). l.var) c

    bound : (n : ℕ) × ((c : List Lit) → Contains (literals cnf.clauses) c → (own c).0 < n)
    bound = above_all (λ (c : List Lit). (own c).0) (literals cnf.clauses)

    small : (c : List Lit) → Contains (literals cnf.clauses) c → (l : Lit) → Contains c l → l.var < bound.0
    small c m l h = let a = (own c).1 l h in let b = bound.1 c m in omega (arith, a, b)

    derived : Derives (numbered (literals cnf.clauses)) (length cnf.clauses) []
    derived = tree (literals cnf.clauses) bound.0 small unsat bound.0 [] (numbered (literals cnf.clauses)) (length cnf.clauses)
        (all_live (literals cnf.clauses) (length cnf.clauses) (length-map cnf.clauses (λ c. c.lits)))
        (λ l m. absurd (mem-nil l m)) (λ i low high. absurd (omega (arith, low, high)))
