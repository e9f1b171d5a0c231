-- New clauses one after the other, up to the budget or to one that is empty.
use Rattle.std.proofs.Common.{◌≡◌, ◌∙◌, ◌≤◌, ◌+◌, ◌⊎◌, inl, inr, ℕ, zero, suc, Bool, Some, List, [], ◌∷◌, ◌++◌, length, Contains, refl, sym, ap, subst, arith, append_assoc}
use Rattle.std.proofs.lemmas.List.{append-nil, length-map}
use Rattle.std.proofs.lemmas.List.Elements.{Contains-append_cases, Contains-append_left}
use Rattle.std.proofs.lemmas.Map.{update_here, update_apart}
use Rattle.std.proofs.lemmas.Option.{slice_get_read}
use Rattle.cqa_value.proofs.Words.{mem-head, mem-tail, mem-nil, mem-cases, member_place}
use Rattle.cnf_form.specs.declared.formula.Lit.{Lit}
use Rattle.cnf_form.specs.declared.log.Step.{Step}
use Rattle.cnf_form.specs.declared.log.Step.TheVariants.{Add}
use Rattle.cnf_form.specs.Literals.{literals, AreVars, SatisfiesAll}
use Rattle.cnf_form.specs.Logs.{Live, numbered, with_clause, StepsPass, added, AreConsecutive}
use Rattle.cnf_form.specs.Propagation.{ReachesEmpty, StaysOpen}
use Rattle.cnf_form.specs.Spent.{AreNew, OnlyAdds}
use Rattle.existence_law.specs.Budgets.{BudgetsDecide}
use Rattle.existence_law.proofs.Closing.{open_count, IsUnder, HasConflict, IsClosed, Reached, closure, never_empty, stays_open}
use Rattle.existence_law.proofs.NewClauses.{AreLive, Blocked, hints_of, a_variable, new_clause, clause, clause_fits, clause_is_new, clause_passes}

-- steps that add the empty clause last
record Refuted (live : Live) (top budget : ℕ) : Type 0 where
  steps : List Step
  passes : StepsPass live top steps
  follows : AreConsecutive top steps
  empty : Contains (added steps) []
  few : length steps ≤ budget + 1

-- steps that add as many new clauses as the budget has, behind which some variable stays open
record SpentUp (n : ℕ) (cs : List (List Lit)) (live : Live) (top budget : ℕ) : Type 0 where
  steps : List Step
  passes : StepsPass live top steps
  adds : OnlyAdds steps
  count : length steps ≡ budget
  new : AreNew n cs (added steps)
  stuck : ReachesEmpty (cs ++ added steps) → ⊥
  free : (v : ℕ) × (1 ≤ v) × (v ≤ n) × StaysOpen (cs ++ added steps) v

abbrev Outcome : ℕ → List (List Lit) → Live → ℕ → ℕ → Type 0
Outcome n cs live top budget = Refuted live top budget ⊎ SpentUp n cs live top budget

abbrev AreInRange : ℕ → List (List Lit) → Type 0
AreInRange n cs = (c : List Lit) → Contains cs c → AreVars n c

abbrev IsUnsat : List (List Lit) → Type 0
IsUnsat cs = (v : ℕ → Bool) → SatisfiesAll v cs → ⊥

module _ (n : ℕ) (cs : List (List Lit)) (live : Live) (top : ℕ) (are : AreLive live top cs) (range : AreInRange n cs) (unsat : IsUnsat cs) where
  abbrev start : Reached cs []
  start = closure cs n range (suc (open_count n [])) [] [] (omega arith) tt

  -- propagation alone comes to a clause that is all denied
  at_once : (budget : ℕ) (us : List Lit) → IsUnder cs [] us → HasConflict cs (us ++ []) → Refuted live top budget
  at_once budget us under conflict =
      let hints = hints_of cs live top are [] us under conflict in
      record {
        steps = Add (top + 1) (record { lits = [] }) hints.0 ∷ [];
        passes = ((omega arith, inr hints.1), tt);
        follows = (refl, tt);
        empty = mem-head [] [];
        few = omega arith;
      }

  spent_now : (us : List Lit) → IsClosed cs (us ++ []) → SpentUp n cs live top 0
  spent_now us closed =
      let v = a_variable cs n range unsat (us ++ []) closed in
      record {
        steps = [];
        passes = tt;
        adds = tt;
        count = refl;
        new = tt;
        stuck = λ r. never_empty cs (us ++ []) closed (subst ReachesEmpty (append-nil cs) r);
        free = (v.0, v.1, v.2, subst (λ l. StaysOpen l v.0) (sym (append-nil cs)) (stays_open cs (us ++ []) closed v.0 v.3));
      }

  module _ (b : Blocked cs n) where
    abbrev c : List Lit
    c = clause cs n b

    abbrev more : List (List Lit)
    more = cs ++ c ∷ []

    abbrev live_more : Live
    live_more = with_clause live (top + 1) c

    more_live : AreLive live_more (top + 1) more
    more_live d m = elim (Contains-append_cases cs (c ∷ []) d m) [
      | inl k ↦ let p = are d k in let low = p.1 in (p.0, omega (arith, low), update_apart live (top + 1) (Some c) p.0 (λ e. absurd (omega (arith, low, e))) ∙ p.2)
      | inr k ↦ elim (mem-cases d c [] k) [ inl e ↦ (top + 1, omega arith, update_here live (top + 1) (Some c) ∙ ap (λ x. Some x) e) | inr z ↦ absurd (mem-nil d z) ]
    ]

    more_range : AreInRange n more
    more_range d m = elim (Contains-append_cases cs (c ∷ []) d m) [
      | inl k ↦ range d k
      | inr k ↦ elim (mem-cases d c [] k) [ inl e ↦ subst (AreVars n) e (clause_fits cs n b).range | inr z ↦ absurd (mem-nil d z) ]
    ]

    more_unsat : IsUnsat more
    more_unsat v s = unsat v (λ d m. s d (Contains-append_left cs (c ∷ []) d m))

    goes_on : (budget : ℕ) → Outcome n more live_more (top + 1) budget → Outcome n cs live top (suc budget)
    goes_on budget (inl r) =
        let hints = clause_passes cs n b live top are in
        let few = r.few in
        inl (record {
          steps = Add (top + 1) (record { lits = c }) hints.0 ∷ r.steps;
          passes = ((omega arith, hints.1), r.passes);
          follows = (refl, r.follows);
          empty = mem-tail [] c (added r.steps) r.empty;
          few = omega (arith, few);
        })
    goes_on budget (inr s) =
        let hints = clause_passes cs n b live top are in
        let joined : more ++ added s.steps ≡ cs ++ c ∷ added s.steps = append_assoc cs (c ∷ []) (added s.steps) in
        inr (record {
          steps = Add (top + 1) (record { lits = c }) hints.0 ∷ s.steps;
          passes = ((omega arith, hints.1), s.passes);
          adds = s.adds;
          count = ap suc s.count;
          new = (clause_fits cs n b, clause_is_new cs n b, s.new);
          stuck = λ r. s.stuck (subst ReachesEmpty (sym joined) r);
          free = (s.free.0, s.free.1, s.free.2, subst (λ l. StaysOpen l s.free.0) joined s.free.3);
        })

  -- a new clause, where propagation alone has ended
  a_clause : (us : List Lit) → IsUnder cs [] us → IsClosed cs (us ++ []) → Blocked cs n
  a_clause us under closed = new_clause cs n range unsat (suc (open_count n [])) us [] under closed (λ l m. absurd (mem-nil l m)) tt (omega arith)

outcome : (budget n : ℕ) (cs : List (List Lit)) (live : Live) (top : ℕ) → AreLive live top cs → AreInRange n cs → IsUnsat cs → Outcome n cs live top budget
outcome zero n cs live top are range unsat = go (start n cs live top are range unsat).us (start n cs live top are range unsat).under (start n cs live top are range unsat).ends
  where
    go : (us : List Lit) → IsUnder cs [] us → HasConflict cs (us ++ []) ⊎ IsClosed cs (us ++ []) → Outcome n cs live top 0
    go us under (inl conflict) = inl (at_once n cs live top are range unsat 0 us under conflict)
    go us under (inr closed) = inr (spent_now n cs live top are range unsat us closed)
outcome (suc budget) n cs live top are range unsat =
    go (start n cs live top are range unsat).us (start n cs live top are range unsat).under (start n cs live top are range unsat).ends
    (λ b. outcome budget n (more n cs live top are range unsat b) (live_more n cs live top are range unsat b) (top + 1) (more_live n cs live top are range unsat b) (more_range n cs live top are range unsat b)
    (more_unsat n cs live top are range unsat b))
  where
    go : (us : List Lit) → IsUnder cs [] us → HasConflict cs (us ++ []) ⊎ IsClosed cs (us ++ []) →
        ((b : Blocked cs n) → Outcome n (more n cs live top are range unsat b) (live_more n cs live top are range unsat b) (top + 1) budget) → Outcome n cs live top (suc budget)
    go us under (inl conflict) next = inl (at_once n cs live top are range unsat (suc budget) us under conflict)
    go us under (inr closed) next = let b = a_clause n cs live top are range unsat us under closed in goes_on n cs live top are range unsat b budget (next b)

pub all_live : (cs : List (List Lit)) (top : ℕ) → length cs ≡ top → AreLive (numbered cs) top cs
all_live cs top e c m = let p = member_place cs c c m in let l = p.1 in (suc p.0, omega (arith, l, e), slice_get_read cs (length cs) p.0 c refl p.1 (sym p.2))

pub budgets_decide : BudgetsDecide
budgets_decide cnf budget range unsat =
    elim (outcome budget cnf.vars (literals cnf.clauses) (numbered (literals cnf.clauses)) (length cnf.clauses) (all_live (literals cnf.clauses) (length cnf.clauses) (length-map cnf.clauses (λ c. c.lits))) range unsat) [
      | inl r ↦ inl (r.steps, ((r.passes, r.empty), r.follows, r.few))
      | inr s ↦ inr (s.steps, record { passes = s.passes; adds = s.adds; count = s.count; new = s.new; stuck = s.stuck; free = s.free })
    ]
