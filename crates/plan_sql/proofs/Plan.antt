-- The steps of a plan have the contexts for which the plan holds, by induction on the plan.
use Rattle.std.proofs.Common.{◌≡◌, ℕ, suc, ◌<◌, ◌-◌, ◌⊎◌, inl, inr, Bool, true, false, not, ◌||◌, List, [], ◌∷◌, ◌++◌, length, map, refl, ap, sym, subst, arith, Contains}
use Rattle.std.specs.List.{filter, list_any}
use Rattle.std.proofs.lemmas.List.Elements.{Contains-append_left, Contains-append_right}
use Rattle.cqa_value.specs.declared.value.Value.{Value}
use Rattle.cqa_value.proofs.Words.{Contains-filter, map_alike}
use Rattle.cqa_model.specs.declared.query.Query.{Query}
use Rattle.cqa_model.specs.Database.{AreConsistent}
use Rattle.cqa_model.specs.Query.{atom_key, IsStrict}
use Rattle.cqa_model.proofs.Classic.{mem-head, mem-tail, mem-nil, mem-cases}
use Rattle.cqa_model.proofs.Repairs.{shares-self}
use Rattle.sql_text.specs.declared.syntax.Step.{Step}
use Rattle.sql_text.specs.declared.syntax.Within.{Within}
use Rattle.sql_text.specs.Meaning.{AreWithin}
use Rattle.plan_sql.specs.declared.bounds.Bound.{Bound}
use Rattle.sql_steps.specs.declared.part.Part.{Part}
use Rattle.sql_steps.specs.Variables.{variables_of, key_variables}
use Rattle.sql_steps.specs.Steps.{are_single, hangs}
use Rattle.plan_sql.specs.Statement.{context_of, level_steps, bound_of, bound_for, asked_steps, only_of, Made, with_level, made_of, is_value_test}
use Rattle.plan_sql.proofs.Rel.{Rel, Stays, stays-self, stays-trans}
use Rattle.sql_steps.proofs.Suiting.{Suits}
use Rattle.sql_steps.proofs.Atoms.{keys-within}
use Rattle.sql_steps.proofs.Joining.{Hold}
use Rattle.plan_sql.proofs.Holding.{Keeps, Holding}
use Rattle.plan_sql.proofs.Contexts.{IsOf, loose-known, context-from, context-into, of-small}
use Rattle.plan_sql.proofs.Asking.{IsBound, IsPassed, IsAsked, within-stays, bound-stays, passed-stays, passed-keeps, asked}
use Rattle.plan_sql.proofs.Made.{IsPart, part-stays, IsLevel, level}

module _ (q : Query) (T : ℕ → List (List Value)) (strict : (F : ℕ) → F < length q.atoms → IsStrict q F → AreConsistent (atom_key q F) (T F)) where
  -- what the steps of a plan have
  pub record IsMade (known : List ℕ) (bounds : List Bound) (before : List Step) (plan : List ℕ) (made : Made) : Type 0 where
    pub stays : Stays T before made.steps
    pub each : (p : Part) → Contains made.parts p → IsPart T known made.steps p
    pub has : (v : ℕ) → Contains known v → (G : ℕ) → Contains plan G → Contains (variables_of q G) v → (p : Part) × Contains made.parts p × Contains p.columns v
    pub from : (e : ℕ → Value) → Hold T (Rel T made.steps) made.parts e → Holding q T known e plan
    pub into : (e : ℕ → Value) → ((b : Bound) → Contains bounds b → IsPassed q T before e b) → Holding q T known e plan → Hold T (Rel T made.steps) made.parts e

  module _ (F : ℕ) (lF : F < length q.atoms) (plan : List ℕ) (number : ℕ) (known : List ℕ) (bounds : List Bound) (before : List Step) (bound : (b : Bound) → Contains bounds b → IsBound q T known before b) where
    abbrev start : List Step
    start = before ++ asked_steps q number F (bound_for q bounds F)

    abbrev only : List Within
    only = only_of q F (length before) (bound_for q bounds F)

    abbrev new : Bound
    new = bound_of q bounds F only

    abbrev next : List Bound
    next = new ∷ bounds

    abbrev wider : List ℕ
    wider = known ++ variables_of q F

    ask : IsAsked q T bounds before start F only
    ask = asked q T F lF number known bounds before bound

    -- the atoms before, and F
    next-bound : (b : Bound) → Contains next b → IsBound q T wider start b
    next-bound b m = elim (mem-cases b new bounds m) [
      | inl e ↦ subst (λ z. IsBound q T wider start z) e (record { atom = lF; within = λ v k. Contains-append_right known (variables_of q F) v k; of_key = ask.of_key; there = ask.there })
      | inr n ↦
          let h = bound-stays q T known before start b ask.stays (bound b n) in
          record { atom = h.atom; within = λ v k. Contains-append_left known (variables_of q F) v (h.within v k); of_key = h.of_key; there = h.there }
    ]

    -- they have rows that suit
    next-passed : (e d : ℕ → Value) → ((b : Bound) → Contains bounds b → IsPassed q T before e b) → Keeps known e d → (y : List Value) → Contains (T F) y → Suits q d F y → (b : Bound) → Contains next b → IsPassed q T start d b
    next-passed e d pass k y my s b m = elim (mem-cases b new bounds m) [
      | inl f ↦ subst (λ z. IsPassed q T start d z) f (y, my, s, ask.passes d kept y s)
      | inr n ↦ passed-stays q T known before start b d ask.stays (bound b n) (kept b n)
    ]
      where
        kept : (c : Bound) → Contains bounds c → IsPassed q T before d c
        kept c n = passed-keeps q T known before c e d (bound c n) k (pass c n)

    -- with the steps of F behind those of the later atoms
    module _ (later : Made) (done : IsMade wider next start plan later) where
      abbrev hang : Part → Bool
      hang p = hangs q known F p

      abbrev kids : List Part
      kids = filter (λ p. hangs q known F p) later.parts

      abbrev others : List Part
      others = filter (λ p. not (hangs q known F p)) later.parts

      abbrev steps : List Step
      steps = later.steps ++ level_steps q number F (context_of q known F kids) only bounds kids (length later.steps)

      abbrev first : Part
      first = record { number = number; step = length steps - 1; columns = context_of q known F kids; keys = key_variables q F; single = are_single (variables_of q F) kids; rare = list_any (λ k. is_value_test F k) q.conds || list_any (λ (p : Part). p.rare) kids }

      kid-in : (p : Part) → Contains kids p → Contains later.parts p
      kid-in p m = ((Contains-filter (λ (z : Part). hangs q known F z) later.parts p).0 m).0

      other-in : (p : Part) → Contains others p → Contains later.parts p
      other-in p m = ((Contains-filter (λ (z : Part). not (hangs q known F z)) later.parts p).0 m).0

      -- what doesn't hang on F has no variable of it that isn't known before
      other-known : (p : Part) → Contains others p → (v : ℕ) → Contains p.columns v → Contains known v
      other-known p m v n = loose-known q F known p ((Contains-filter (λ (z : Part). not (hangs q known F z)) later.parts p).0 m).1 v n ((done.each p (other-in p m)).columns v n)

      either : (p : Part) → Contains later.parts p → Contains kids p ⊎ Contains others p
      either p m = go (hang p) refl
        where
          go : (t : Bool) → hang p ≡ t → Contains kids p ⊎ Contains others p
          go true e = inl ((Contains-filter (λ (z : Part). hangs q known F z) later.parts p).1 (m, e))
          go false e = inr ((Contains-filter (λ (z : Part). not (hangs q known F z)) later.parts p).1 (m, ap not e))

      kid : (p : Part) → Contains kids p → IsPart T wider later.steps p
      kid p m = done.each p (kid-in p m)

      far : Stays T before later.steps
      far = stays-trans T before start later.steps ask.stays done.stays

      still : (b : Bound) → Contains bounds b → IsBound q T known later.steps b
      still b m = bound-stays q T known before later.steps b far (bound b m)

      lv : IsLevel q T F lF (strict F lF) number known kids later.steps only kid ask.of_key bounds still steps (are_single (variables_of q F) kids)
      lv = level q T F lF (strict F lF) number known kids later.steps only kid ask.of_key bounds still

      same : (p : Part) → Contains others p → (e d : ℕ → Value) → Keeps known e d → map d p.columns ≡ map e p.columns
      same p m e d k = map_alike d e p.columns (λ v n. k v (other-known p m v n))

      first-part : IsPart T known steps first
      first-part = record {
        there = let l : length later.steps < length steps = lv.some in omega arith;
        wide = lv.wide;
        single = λ t inside d e a b k. lv.one t d e inside k a b;
        small = λ v m. of-small q F lF known kids (λ p m. (kid p m).small) v (context-from q F lF known kids v m).1;
        columns = λ v m. (context-from q F lF known kids v m).0;
        keys = λ v m k. context-into q F lF known kids (λ p m. (kid p m).small) v k (inl (keys-within q F lF v m));
      }

      other-part : (p : Part) → Contains others p → IsPart T known steps p
      other-part p m =
          let h = part-stays T wider later.steps steps p lv.stays (done.each p (other-in p m)) in
          record { there = h.there; wide = h.wide; single = h.single; small = h.small; columns = other-known p m; keys = λ v n k. h.keys v n (Contains-append_left known (variables_of q F) v k) }

      from : (e : ℕ → Value) → Hold T (Rel T steps) (first ∷ others) e → Holding q T known e (F ∷ plan)
      from e h = let held = lv.from e (h first (mem-head first others)) in (held.0, held.1, λ y my s. let d = held.2 y my s in (d.0, d.1, d.2, done.from d.0 (all d.0 d.1 d.3)))
        where
          all : (d : ℕ → Value) → Keeps known e d → Hold T (Rel T later.steps) kids d → Hold T (Rel T later.steps) later.parts d
          all d k hold p m = elim (either p m) [
            | inl n ↦ hold p n
            | inr n ↦ subst (Rel T later.steps p.step) (sym (same p n e d k)) (lv.stays.back p.step (done.each p m).there (map e p.columns) (h p (mem-tail p first others n)))
          ]

      into : (e : ℕ → Value) → ((b : Bound) → Contains bounds b → IsPassed q T before e b) → Holding q T known e (F ∷ plan) → Hold T (Rel T steps) (first ∷ others) e
      into e pass (x, mx, f) p m = elim (mem-cases p first others m) [
        | inl g ↦ subst (λ (z : Part). Rel T steps z.step (map e z.columns)) g (lv.into e (λ b n. passed-stays q T known before later.steps b e far (bound b n) (pass b n)) passes (x, mx, λ y my s. let d = f y my s in (d.0, d.1, d.2, λ o n. rest y my d.0 d.1 d.2 d.3 o (kid-in o n))))
        | inr n ↦
            let d = f x mx (shares-self (atom_key q F) x) in
            subst (Rel T steps p.step) (same p n e d.0 d.1) (lv.stays.into p.step (done.each p (other-in p n)).there (map d.0 p.columns) (rest x mx d.0 d.1 d.2 d.3 p (other-in p n)))
      ]
        where
          rest : (y : List Value) → Contains (T F) y → (d : ℕ → Value) → Keeps known e d → Suits q d F y → Holding q T wider d plan → Hold T (Rel T later.steps) later.parts d
          rest y my d k s h = done.into d (next-passed e d pass k y my s) h

          passes : (y : List Value) (d : ℕ → Value) → Contains (T F) y → Keeps known e d → Suits q d F y → Hold T (Rel T later.steps) kids d → AreWithin (Rel T later.steps) (y ∷ []) only
          passes y d my k s hold = within-stays q T start later.steps done.stays (y ∷ []) only ask.there (ask.passes d (λ b n. passed-keeps q T known before b e d (bound b n) k (pass b n)) y s)

      has-first : (v : ℕ) → Contains known v → IsOf q F lF known kids v → (p : Part) × Contains (first ∷ others) p × Contains p.columns v
      has-first v m o = (first, mem-head first others, context-into q F lF known kids (λ p m. (kid p m).small) v m o)

      has-variable : (v : ℕ) → Contains known v → (G : ℕ) → Contains (F ∷ plan) G → Contains (variables_of q G) v → (p : Part) × Contains (first ∷ others) p × Contains p.columns v
      has-variable v m G n k = elim (mem-cases G F plan n) [
        | inl e ↦ has-first v m (inl (subst (λ z. Contains (variables_of q z) v) (sym e) k))
        | inr o ↦ more (done.has v (Contains-append_left known (variables_of q F) v m) G o k)
      ]
        where
          more : (p : Part) × Contains later.parts p × Contains p.columns v → (p : Part) × Contains (first ∷ others) p × Contains p.columns v
          more (p, l, c) = elim (either p l) [ inl a ↦ has-first v m (inr (p, a, c)) | inr b ↦ (p, mem-tail p first others b, c) ]

      whole : IsMade known bounds before (F ∷ plan) (with_level q number known bounds only F later)
      whole = record {
        stays = stays-trans T before start steps ask.stays (stays-trans T start later.steps steps done.stays lv.stays);
        each = λ p m. elim (mem-cases p first others m) [ inl e ↦ subst (λ z. IsPart T known steps z) e first-part | inr n ↦ other-part p n ];
        has = has-variable;
        from = from;
        into = into;
      }

  pub made-right : (plan : List ℕ) → ((G : ℕ) → Contains plan G → G < length q.atoms) → (number : ℕ) (known : List ℕ) (bounds : List Bound) (before : List Step) → ((b : Bound) → Contains bounds b → IsBound q T known before b) →
      IsMade known bounds before plan (made_of q number known bounds before plan)
  made-right [] there number known bounds before bound = record { stays = stays-self T before; each = λ p m. absurd (mem-nil p m); has = λ v m G n k. absurd (mem-nil G n); from = λ e h. tt; into = λ e pass h p m. absurd (mem-nil p m) }
  made-right (F ∷ plan) there number known bounds before bound =
      let lF : F < length q.atoms = there F (mem-head F plan) in
      whole F lF plan number known bounds before bound
      (made_of q (suc number) (known ++ variables_of q F) (next F lF plan number known bounds before bound) (start F lF plan number known bounds before bound) plan)
      (made-right plan (λ G m. there G (mem-tail G F plan m)) (suc number) (known ++ variables_of q F) (next F lF plan number known bounds before bound) (start F lF plan number known bounds before bound) (next-bound F lF plan number known bounds before bound))
