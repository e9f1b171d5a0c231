-- One step more of a check.
use Rattle.std.proofs.Common.{◌<◌, ◌+◌, take, get_or, ◌≡◌, ℕ, zero, suc, List, [], ◌∷◌, ◌++◌, ◌⊎◌, inl, inr, refl, sym, ◌∙◌, ap, subst, arith, length, Option, Some, None, Bool, true, false}
use Rattle.std.specs.Prelude.{Contains}
use Rattle.std.proofs.lemmas.List.{take_more}
use Rattle.cqa_value.proofs.Words.{mem-tail, mem-cases, mem-head}
use Rattle.cnf_form.specs.declared.log.Step.{Step}
use Rattle.cnf_form.specs.declared.log.Step.TheVariants.{Add, Delete}
use Rattle.cnf_form.specs.Logs.{Live, StepPasses, StepsPass, added, live_after, top_after}
use Rattle.lrat_check.specs.declared.fault.LogCause.{LogCause}
use Rattle.lrat_check.specs.Failing.{FailsAt, StepFails}
use Rattle.lrat_check.specs.Steps.{AddsEmpty, StepIs}
use Rattle.lrat_check.specs.declared.fault.LogFault.{LogFault}
use Rattle.lrat_check.specs.declared.checker.Checker.{Checker}
use Rattle.lrat_check.specs.Reached.{HasPassed, Reached, ReachedBy, live_through, top_through}

passes_more : (start : Live) (first : ℕ) (xs : List Step) (s : Step) → StepsPass start first xs → StepPasses (live_through start xs) (top_through first xs) s → StepsPass start first (xs ++ s ∷ [])
passes_more start first [] s p q = (q, tt)
passes_more start first (x ∷ xs) s p q = (p.0, passes_more (live_after start x) (top_after first x) xs s p.1 q)

live_more : (start : Live) (xs : List Step) (s : Step) → live_through start (xs ++ s ∷ []) ≡ live_after (live_through start xs) s
live_more start [] s = refl
live_more start (x ∷ xs) s = live_more (live_after start x) xs s

top_more : (first : ℕ) (xs : List Step) (s : Step) → top_through first (xs ++ s ∷ []) ≡ top_after (top_through first xs) s
top_more first [] s = refl
top_more first (x ∷ xs) s = top_more (top_after first x) xs s

fails_next : (start : Live) (first : ℕ) (xs : List Step) (s : Step) (cause : LogCause) → StepsPass start first xs → StepFails (live_through start xs) (top_through first xs) s cause → FailsAt start first (xs ++ s ∷ []) (length xs) cause
fails_next start first [] s cause p q = q
fails_next start first (x ∷ xs) s cause p q = (p.0, fails_next (live_after start x) (top_after first x) xs s cause p.1 q)

pub fails_more : (start : Live) (first : ℕ) (xs ys : List Step) (n : ℕ) (cause : LogCause) → FailsAt start first xs n cause → FailsAt start first (xs ++ ys) n cause
fails_more start first [] ys n cause f = absurd f
fails_more start first (x ∷ xs) ys zero cause f = f
fails_more start first (x ∷ xs) ys (suc n) cause f = (f.0, fails_more (live_after start x) (top_after first x) xs ys n cause f.1)

-- whether the empty clause is among those that were added
added_here : (xs : List Step) (s : Step) → AddsEmpty s → Contains (added (xs ++ s ∷ [])) []
added_here [] (Add id clause hints) e = subst (λ (c : _). Contains (c ∷ []) []) (sym e) (mem-head [] [])
added_here [] (Delete ids) e = absurd e
added_here (Add id clause hints ∷ xs) s e = mem-tail [] clause.lits (added (xs ++ s ∷ [])) (added_here xs s e)
added_here (Delete ids ∷ xs) s e = added_here xs s e

added_before : (xs : List Step) (s : Step) → Contains (added xs) [] → Contains (added (xs ++ s ∷ [])) []
added_before [] s k = absurd (omega (arith, k.1))
added_before (Add id clause hints ∷ xs) s k = elim (mem-cases [] clause.lits (added xs) k) [
  | inl e ↦ subst (λ (c : _). Contains (c ∷ added (xs ++ s ∷ [])) []) (sym e) (mem-head [] (added (xs ++ s ∷ [])))
  | inr r ↦ mem-tail [] clause.lits (added (xs ++ s ∷ [])) (added_before xs s r)
]
added_before (Delete ids ∷ xs) s k = added_before xs s k

added_cases : (xs : List Step) (s : Step) → Contains (added (xs ++ s ∷ [])) [] → Contains (added xs) [] ⊎ AddsEmpty s
added_cases [] (Add id clause hints) k = elim (mem-cases [] clause.lits [] k) [ inl e ↦ inr e | inr r ↦ absurd (omega (arith, r.1)) ]
added_cases [] (Delete ids) k = absurd (omega (arith, k.1))
added_cases (Add id clause hints ∷ xs) s k = elim (mem-cases [] clause.lits (added (xs ++ s ∷ [])) k) [
  | inl e ↦ inl (subst (λ (c : _). Contains (c ∷ added xs) []) (sym e) (mem-head [] (added xs)))
  | inr r ↦ elim (added_cases xs s r) [ inl l ↦ inl (mem-tail [] clause.lits (added xs) l) | inr e ↦ inr e ]
]
added_cases (Delete ids ∷ xs) s k = added_cases xs s k

pub fails_here : (start : Live) (first : ℕ) (xs : List Step) (live : Live) (top passed : ℕ) (seen : Bool) (s : Step) (cause : LogCause)
    → HasPassed start first xs live top passed seen → StepFails live top s cause → FailsAt start first (xs ++ s ∷ []) passed cause
fails_here start first xs live top passed seen s cause h f =
    subst (λ (n : ℕ). FailsAt start first (xs ++ s ∷ []) n cause) (sym h.count)
    (fails_next start first xs s cause h.passes
    (subst (λ (l : Live). StepFails l (top_through first xs) s cause) h.live_is (subst (λ (t : ℕ). StepFails live t s cause) h.top_is f)))

pub passed_more : (start : Live) (first : ℕ) (xs : List Step) (live : Live) (top passed : ℕ) (seen : Bool) (s : Step) (new : Live) (t n : ℕ) (b : Bool)
    → HasPassed start first xs live top passed seen → StepIs live top s new None → t ≡ top_after top s → n ≡ suc passed
    → (seen ≡ true → b ≡ true) → (b ≡ false → seen ≡ false) → (seen ≡ false → b ≡ true → AddsEmpty s) → (b ≡ false → AddsEmpty s → ⊥)
    → HasPassed start first (xs ++ s ∷ []) new t n b
passed_more start first xs live top passed seen s new t n b h p te ne kept before some none = record {
  passes = passes_more start first xs s h.passes (subst (λ (l : Live). StepPasses l (top_through first xs) s) h.live_is (subst (λ (u : ℕ). StepPasses live u s) h.top_is p.0));
  live_is = p.1 ∙ ap (λ (l : Live). live_after l s) h.live_is ∙ sym (live_more start xs s);
  top_is = te ∙ ap (λ (u : ℕ). top_after u s) h.top_is ∙ sym (top_more first xs s);
  count = ne ∙ ap suc h.count ∙ sym (length_more xs s);
  yes = seen_yes seen refl;
  no = λ e k. elim (added_cases xs s k) [ inl l ↦ h.no (before e) l | inr a ↦ none e a ];
}
  where
    length_more : (ys : List Step) (y : Step) → length (ys ++ y ∷ []) ≡ suc (length ys)
    length_more [] y = refl
    length_more (z ∷ ys) y = ap suc (length_more ys y)

    seen_yes : (v : Bool) → seen ≡ v → b ≡ true → Contains (added (xs ++ s ∷ [])) []
    seen_yes true e q = added_before xs s (h.yes e)
    seen_yes false e q = added_here xs s (some e q)

pub where_none : (start : Live) (first : ℕ) (xs : List Step) (live : Live) (top passed : ℕ) (seen : Bool) (o : Option LogFault) → o ≡ None
    → ReachedBy start first xs live top passed seen o → HasPassed start first xs live top passed seen
where_none start first xs live top passed seen o e r = subst (λ (p : Option LogFault). ReachedBy start first xs live top passed seen p) e r

pub as_none : (start : Live) (first : ℕ) (xs : List Step) (live : Live) (top passed : ℕ) (seen : Bool) (o : Option LogFault) → o ≡ None
    → HasPassed start first xs live top passed seen → ReachedBy start first xs live top passed seen o
as_none start first xs live top passed seen o e h = subst (λ (p : Option LogFault). ReachedBy start first xs live top passed seen p) (sym e) h

-- a fault stays the first
pub fault_stays : (start : Live) (first : ℕ) (xs ys : List Step) (live : Live) (top passed : ℕ) (seen : Bool) (o : Option LogFault) (f : LogFault) → o ≡ Some f
    → ReachedBy start first xs live top passed seen o → ReachedBy start first (xs ++ ys) live top passed seen o
fault_stays start first xs ys live top passed seen o f e r =
    let k : ReachedBy start first xs live top passed seen (Some f) = subst (λ (p : Option LogFault). ReachedBy start first xs live top passed seen p) e r in
    subst (λ (p : Option LogFault). ReachedBy start first (xs ++ ys) live top passed seen p) (sym e) (k.0, k.1, fails_more start first xs ys k.0 f.cause k.2)

pub reached_more : (start : Live) (first : ℕ) (all : List Step) (i : ℕ) (d : Step) (k : Checker) → i < length all → d ≡ get_or all i d
    → Reached start first (take i all ++ d ∷ []) k → Reached start first (take (i + 1) all) k
reached_more start first all i d k h at r =
    subst (λ (xs : List Step). Reached start first xs k) (ap (λ (x : Step). take i all ++ x ∷ []) at ∙ sym (take_more all i d h)) r
