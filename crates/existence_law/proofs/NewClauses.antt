-- A new clause: the opposites of decisions under which propagation comes to a clause that is all denied, where it didn't before the last of them.
use Rattle.std.proofs.Common.{◌≡◌, ◌∙◌, ◌<◌, ◌≤◌, ◌⊎◌, inl, inr, ℕ, zero, suc, ℤ, pos, Bool, Some, List, [], ◌∷◌, ◌++◌, map, Contains, refl, sym, ap, subst, arith}
use Rattle.std.specs.List.{range_with_len}
use Rattle.std.proofs.lemmas.List.Elements.{Contains-append_right}
use Rattle.cqa_value.proofs.Words.{mem-head, mem-tail, mem-cases, Contains-from_map, Contains-range, in_range}
use Rattle.cqa_model.proofs.Classic.{find_in}
use Rattle.cnf_form.specs.declared.formula.Lit.{Lit}
use Rattle.cnf_form.specs.Literals.{positive, opposite, OthersDenied, HasVar, AreVars, SatisfiesAll}
use Rattle.cnf_form.specs.Logs.{Live, AdditionPasses, HintsPass}
use Rattle.cnf_form.specs.Spent.{NoVarTwice, IsFit, IsNew}
use Rattle.cnf_form.proofs.Lits.{opposite-opposite, opposites-twice, equal_or_not}
use Rattle.existence_law.proofs.Closing.{dec_has, dec_var, open_count, fewer_open, IsUnder, HasConflict, IsClosed, Reached, one_decision, closure, satisfied}

-- every clause of a list is live, under an id up to a number
abbrev pub AreLive : Live → ℕ → List (List Lit) → Type 0
AreLive live top cs = (c : List Lit) → Contains cs c → (id : ℕ) × (id ≤ top) × (live id ≡ Some c)

-- ---- hints

module _ (cs : List (List Lit)) (live : Live) (top : ℕ) (are : AreLive live top cs) where
  -- the clause that gave a literal is a hint before those that hold with it
  one_back : (held : List Lit) (u : Lit) (c : List Lit) → Contains cs c → Contains c u → OthersDenied held c u → (hints : List ℤ) → HintsPass live (u ∷ held) hints → (all : List ℤ) × HintsPass live held all
  one_back held u c m k others hints h = go (dec_has held (opposite u))
    where
      go : Dec (Contains held (opposite u)) → (all : List ℤ) × HintsPass live held all
      go (yes denied) = (
        pos (are c m).0 ∷ [],
        (c, (are c m).2, inl (λ z mz. elim (equal_or_not z u) [ inl same ↦ subst (λ (l : Lit). Contains held (opposite l)) (sym same) denied | inr other ↦ others z mz other ])),
      )
      go (no free) = (pos (are c m).0 ∷ hints, (c, (are c m).2, inr (u, record { inside = k; free = free; others = others }, h)))

  lead : (decided us : List Lit) → IsUnder cs decided us → (hints : List ℤ) → HintsPass live (us ++ decided) hints → (all : List ℤ) × HintsPass live decided all
  lead decided [] under hints h = (hints, h)
  lead decided (u ∷ us) under hints h = let b = one_back (us ++ decided) u under.0.0 under.0.1 under.0.2 under.0.3 hints h in lead decided us under.1 b.0 b.1

  -- the hints of propagation that comes to a clause all denied
  pub hints_of : (decided us : List Lit) → IsUnder cs decided us → HasConflict cs (us ++ decided) → (hints : List ℤ) × HintsPass live decided hints
  hints_of decided us under conflict = lead decided us under (pos (are conflict.0 conflict.1).0 ∷ []) (conflict.0, (are conflict.0 conflict.1).2, inl conflict.2)

-- ---- decisions

pub record Blocked (cs : List (List Lit)) (n : ℕ) : Type 0 where
  pub last : Lit
  pub rest : List Lit
  pub range : AreVars n (last ∷ rest)
  pub once : NoVarTwice (last ∷ rest)
  pub us : List Lit
  pub under : IsUnder cs (last ∷ rest) us
  pub conflict : HasConflict cs (us ++ last ∷ rest)
  pub before : List Lit
  pub closed : IsClosed cs (before ++ rest)
  pub unset : HasVar (before ++ rest) last.var → ⊥

has_var_behind : (front rest : List Lit) (v : ℕ) → HasVar rest v → HasVar (front ++ rest) v
has_var_behind front rest v (l, m, e) = (l, Contains-append_right front rest l m, e)

module _ (cs : List (List Lit)) (n : ℕ) (in_vars : (c : List Lit) → Contains cs c → AreVars n c) (unsat : (v : ℕ → Bool) → SatisfiesAll v cs → ⊥) where
  -- a variable without a value: where each has one, no clause would be denied
  pub a_variable : (held : List Lit) → IsClosed cs held → (v : ℕ) × (1 ≤ v) × (v ≤ n) × (HasVar held v → ⊥)
  a_variable held closed = elim (find_in (HasVar held) (dec_var held) (range_with_len 1 n)) [
    | inl all ↦ absurd (unsat _ (satisfied cs held closed (λ c m l k. let r = in_vars c m l k in let low = r.0 in let high = r.1 in all l.var (Contains-range 1 n l.var low (omega (arith, high))))))
    | inr one ↦ let r = in_range 1 n one.0 one.1 in let low = r.0 in let high = r.1 in (one.0, omega (arith, low), omega (arith, high), one.2)
  ]

  pub new_clause : (fuel : ℕ) (before rest : List Lit) → IsUnder cs rest before → IsClosed cs (before ++ rest) → AreVars n rest → NoVarTwice rest → open_count n rest < fuel → Blocked cs n
  new_clause zero before rest under closed range once few = absurd (omega (arith, few))
  new_clause (suc fuel) before rest under closed range once few = on (a_variable (before ++ rest) closed) (λ us decided u c r o l. new_clause fuel us decided u c r o l)
    where
      on : (v : ℕ) × (1 ≤ v) × (v ≤ n) × (HasVar (before ++ rest) v → ⊥) →
          ((us decided : List Lit) → IsUnder cs decided us → IsClosed cs (us ++ decided) → AreVars n decided → NoVarTwice decided → open_count n decided < fuel → Blocked cs n) → Blocked cs n
      on (v, low, high, unset) more = ends (closure cs n in_vars (suc (open_count n (before ++ positive v ∷ rest))) (positive v ∷ rest) before (omega arith) (one_decision cs rest before (positive v) under))
        where
          all_in : AreVars n (positive v ∷ rest)
          all_in l m = elim (mem-cases l (positive v) rest m) [ inl e ↦ subst (λ (x : Lit). (1 ≤ x.var) × (x.var ≤ n)) e (low, high) | inr k ↦ range l k ]

          apart : HasVar rest v → ⊥
          apart h = unset (has_var_behind before rest v h)

          less : open_count n (positive v ∷ rest) < open_count n rest
          less = fewer_open n rest (positive v ∷ rest) v low high (λ l m. mem-tail l (positive v) rest m) apart (positive v, mem-head (positive v) rest, refl)

          by : (us : List Lit) → IsUnder cs (positive v ∷ rest) us → HasConflict cs (us ++ positive v ∷ rest) ⊎ IsClosed cs (us ++ positive v ∷ rest) → Blocked cs n
          by us u (inl conflict) = record {
            last = positive v;
            rest = rest;
            range = all_in;
            once = (apart, once);
            us = us;
            under = u;
            conflict = conflict;
            before = before;
            closed = closed;
            unset = unset;
          }
          by us u (inr ended) = let l = less in more us (positive v ∷ rest) u ended all_in (apart, once) (omega (arith, few, l))

          ends : Reached cs (positive v ∷ rest) → Blocked cs n
          ends r = by r.us r.under r.ends

-- ---- the clause of the decisions

has_var_back : (c : List Lit) (v : ℕ) → HasVar (map opposite c) v → HasVar c v
has_var_back c v (l, m, e) = let o = Contains-from_map opposite c l m in (o.0, o.1, ap (λ (x : Lit). x.var) o.2 ∙ e)

once_back : (c : List Lit) → NoVarTwice c → NoVarTwice (map opposite c)
once_back [] h = tt
once_back (l ∷ c) h = ((λ has. h.0 (has_var_back c l.var has)), once_back c h.1)

module _ (cs : List (List Lit)) (n : ℕ) (b : Blocked cs n) where
  abbrev pub clause : List Lit
  clause = map opposite (b.last ∷ b.rest)

  pub clause_fits : IsFit n clause
  clause_fits = record {
    some = (opposite b.last, mem-head (opposite b.last) (map opposite b.rest));
    range = λ l m. let o = Contains-from_map opposite (b.last ∷ b.rest) l m in subst (λ (x : Lit). (1 ≤ x.var) × (x.var ≤ n)) o.2 (b.range o.0 o.1);
    once = once_back (b.last ∷ b.rest) b.once;
  }

  held : List Lit
  held = b.before ++ b.rest

  -- a literal of the clause but the last decision's is denied before that decision
  denied_before : (m : Lit) → Contains clause m → (m ≡ opposite b.last → ⊥) → Contains held (opposite m)
  unfolding held
  denied_before m k other = elim (mem-cases m (opposite b.last) (map opposite b.rest) k) [
    | inl e ↦ absurd (other (sym e))
    | inr r ↦
        let o = Contains-from_map opposite b.rest m r in
        Contains-append_right b.before b.rest (opposite m) (subst (Contains b.rest) (sym (opposite-opposite o.0) ∙ ap opposite o.2) o.1)
  ]

  pub clause_is_new : IsNew cs clause
  unfolding held
  clause_is_new d m within = go (dec_has d (opposite b.last))
    where
      go : Dec (Contains d (opposite b.last)) → ⊥
      go (no f) = b.closed.free (d, m, λ l k. denied_before l (within l k) (λ e. f (subst (Contains d) e k)))
      go (yes k) = b.unset (opposite b.last, b.closed.unit d m (opposite b.last) k (λ l h other. denied_before l (within l h) (λ e. other e)), refl)

  pub clause_passes : (live : Live) (top : ℕ) → AreLive live top cs → (hints : List ℤ) × AdditionPasses live clause hints
  clause_passes live top are = let h = hints_of cs live top are (b.last ∷ b.rest) b.us b.under b.conflict in (h.0, inr (subst (λ l. HintsPass live l h.0) (sym (opposites-twice (b.last ∷ b.rest))) h.1))
