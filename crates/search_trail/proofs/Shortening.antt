-- Why a learnt clause still follows without the literals that the others imply.
use Rattle.search_trail.specs.Trail.{At, AreTrailPlaces, IsApart, EndIs}
use Rattle.std.proofs.Common.{take, ◌≡◌, ℕ, ◌<◌, ◌≤◌, ◌+◌, Bool, ℤ, List, [], ◌∷◌, ◌++◌, ◌⊎◌, map, inl, inr, refl, sym, ◌∙◌, ap, subst, arith, Option}
use Rattle.std.specs.Prelude.{Contains}
use Rattle.std.proofs.lemmas.List.Elements.{Contains-push_cases, Contains-append_left, Contains-push}
use Rattle.cqa_value.proofs.Words.{mem-cases, mem-head, Contains-map, Contains-from_map, cases_next}
use Rattle.cnf_form.specs.declared.formula.Lit.{Lit}
use Rattle.cnf_form.specs.Literals.{opposite, Denied}
use Rattle.cnf_form.proofs.Lits.{opposite-opposite}
use Rattle.search_trail.specs.Analysis.{AreKeptLiterals, IsLearntClause, NoneSeen, Works}
use Rattle.search_trail.proofs.Works.{At-in_take, At-same, At-contains, once_more}
use Rattle.search_trail.proofs.Places.{apart_by_places}

-- all that is marked below the level is to be walked over; above it, the literal of the first unique implication point is
pub works_below : (db : List (List Lit)) (t : List Lit) (start : ℕ) (seen : List Bool) (place : ℕ) (hints : List ℤ) (u : Lit)
    → start ≤ place → At t place u → NoneSeen t start place seen → Works db t seen [] (place + 1) hints → Works db t seen (opposite u ∷ []) start hints
works_below db t start seen place hints u after at none w = record {
  chain = λ have' within low high. w.chain have' within
      (λ m i. absurd (omega (arith, i.1)))
      (λ p l h b s. elim (cases_next p place h) [
        | inl lt ↦ elim (below_or p start) [ inl below ↦ high p l below b s | inr g ↦ absurd (none p l g lt b s) ]
        | inr e ↦ subst (λ (x : Lit). Contains have' x) (opposite-opposite u ∙ At-same t place u l at (subst (λ (n : ℕ). At t n l) e b))
            (low (opposite u) (mem-head (opposite u) []))
      ]);
}
  where
    below_or : (p q : ℕ) → (p < q) ⊎ (q ≤ p)
    below_or p q = grind arith

-- a marked literal is kept
pub works_keep : (db : List (List Lit)) (t : List Lit) (seen : List Bool) (lits : List Lit) (place : ℕ) (hints : List ℤ) (x : Lit)
    → At t place x → Works db t seen lits (place + 1) hints → Works db t seen (lits ++ opposite x ∷ []) place hints
works_keep db t seen lits place hints x at w = record {
  chain = λ have' within low high. w.chain have' within
      (λ m i. low m (Contains-append_left lits (opposite x ∷ []) m i))
      (λ p l h b s. elim (cases_next p place h) [
        | inl lt ↦ high p l lt b s
        | inr e ↦ subst (λ (y : Lit). Contains have' y) (opposite-opposite x ∙ At-same t place x l at (subst (λ (n : ℕ). At t n l) e b))
            (low (opposite x) (Contains-push lits (opposite x)))
      ]);
}

pub kept_none : (t : List Lit) (start : ℕ) → AreKeptLiterals t start start []
kept_none t start = record { from = λ m i. absurd (omega (arith, i.1)); once = tt }

pub kept_on : (t : List Lit) (start place : ℕ) (lits : List Lit) → AreKeptLiterals t start (place + 1) lits → AreKeptLiterals t start place lits
kept_on t start place lits k = record { from = λ m i. let f = k.from m i in (f.0, omega (arith, f.1), f.2, f.3); once = k.once }

pub kept_push : (t : List Lit) (start place : ℕ) (lits : List Lit) (x : Lit) → IsApart t
    → At t place x → place < start → AreKeptLiterals t start (place + 1) lits → AreKeptLiterals t start place (lits ++ opposite x ∷ [])
kept_push t start place lits x apart at below k = record {
  from = λ m i. elim (Contains-push_cases lits (opposite x) m i) [
    | inl j ↦ let f = k.from m j in (f.0, omega (arith, f.1), f.2, f.3)
    | inr e ↦ (place, omega arith, below, subst (λ (y : Lit). At t place y) (sym (opposite-opposite x) ∙ ap opposite e) at)
  ];
  once = once_more lits (opposite x) k.once (λ h.
      let f = k.from h.0 h.1 in
      let e : f.0 ≡ place = apart f.0 place (opposite h.0) x f.3 at h.2 in
      omega (arith, e, f.1));
}

pub kept_below : (t : List Lit) (start place : ℕ) (lits : List Lit) → AreKeptLiterals t start place lits → (m : Lit) → Contains lits m → Denied (take start t) m
kept_below t start place lits k m i = let f = k.from m i in At-contains (take start t) f.0 (opposite m) (At-in_take start t f.0 (opposite m) f.2 f.3)

pub kept_denied : (t : List Lit) (start place : ℕ) (lits : List Lit) → AreKeptLiterals t start place lits → (m : Lit) → Contains lits m → Denied t m
kept_denied t start place lits k m i = let f = k.from m i in At-contains t f.0 (opposite m) f.3

-- the clause that is learnt: what is kept, and the literal of the first unique implication point
pub shorter_clause : (db : List (List Lit)) (t : List Lit) (places : List (Option ℕ)) (start : ℕ) (seen : List Bool) (lits : List Lit) (place : ℕ) (hints : List ℤ) (u : Lit) (end : ℕ)
    → AreTrailPlaces t places → start ≤ place → At t place u → AreKeptLiterals t start 0 lits → EndIs t lits end
    → Works db t seen (opposite u ∷ lits) 0 hints → IsLearntClause db t start (lits ++ opposite u ∷ []) hints (opposite u) end
shorter_clause db t places start seen lits place hints u end are after at kept ends w =
    let all = lits ++ opposite u ∷ [] in
    let apart = apart_by_places t places are in
    record {
      asserts = refl;
      ends = ends;
      place = place;
      uip = u;
      lower = lits;
      shape = refl;
      there = at;
      after = after;
      below = kept_below t start 0 lits kept;
      once = once_more lits (opposite u) kept.once (λ h.
          let f = kept.from h.0 h.1 in
          let e : f.0 ≡ place = apart f.0 place (opposite h.0) u f.3 at h.2 in
          omega (arith, e, f.2, after));
      passes = w.chain (map opposite all)
          (λ l i. let q = Contains-from_map opposite all l i in
          elim (Contains-push_cases lits (opposite u) q.0 q.1) [
            | inl j ↦ subst (λ (x : Lit). Contains t x) q.2 (kept_denied t start 0 lits kept q.0 j)
            | inr e ↦ subst (λ (x : Lit). Contains t x) (sym (opposite-opposite u) ∙ ap opposite e ∙ q.2) (At-contains t place u at)
          ])
          (λ m i. elim (mem-cases m (opposite u) lits i) [
            | inl e ↦ subst (λ (y : Lit). Denied (map opposite all) y) e (Contains-map opposite all (opposite u) (Contains-push lits (opposite u)))
            | inr j ↦ Contains-map opposite all m (Contains-append_left lits (opposite u ∷ []) m j)
          ])
          (λ p l h b s. absurd (omega (arith, h)));
    }
