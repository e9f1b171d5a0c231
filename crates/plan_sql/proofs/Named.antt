-- The names of the query of a plan say what its places mean, by induction on the plan.
use Rattle.std.proofs.Common.{◌≡◌, ℕ, suc, ◌<◌, ◌≤◌, ◌-◌, ◌⊎◌, ◌||◌, inl, inr, Bool, true, not, List, [], ◌∷◌, ◌++◌, length, map, refl, ap, sym, ◌∙◌, subst, arith, Contains, Option, Some, None, append-nil}
use Rattle.std.specs.List.{filter, flat_map, list_any, slice_index}
use Rattle.std.proofs.lemmas.List.{append_assoc, length-map}
use Rattle.std.proofs.lemmas.List.Elements.{Contains-append_cases}
use Rattle.cqa_value.proofs.Words.{Contains-from_map, Contains-filter}
use Rattle.cqa_model.specs.declared.query.ColRef.{ColRef}
use Rattle.cqa_model.specs.declared.query.Query.{Query}
use Rattle.cqa_model.specs.Variables.{whole}
use Rattle.cqa_model.proofs.Classic.{mem-head, mem-tail, mem-nil, mem-cases}
use Rattle.cqa_model.proofs.Elimination.{plan-eliminates}
use Rattle.cqa_model.proofs.PlanAtoms.{plan-atoms}
use Rattle.sql_text.specs.declared.syntax.Source.TheVariants.{Step as Earlier}
use Rattle.sql_text.specs.declared.syntax.Body.TheVariants.{Distinct}
use Rattle.sql_text.specs.declared.syntax.Step.{Step}
use Rattle.sql_text.specs.declared.syntax.StepKind.TheVariants.{Asked}
use Rattle.sql_text.specs.declared.syntax.Within.{Within}
use Rattle.sql_text.specs.declared.syntax.Child.{Child}
use Rattle.sql_text.specs.declared.syntax.Listed.{Listed}
use Rattle.sql_text.specs.Named.{AreDifferent, width, ShowsOne, IsThere, AreChildrenOf, AreSources, AreNamedSteps}
use Rattle.plan_sql.specs.declared.bounds.Bound.{Bound}
use Rattle.sql_steps.specs.declared.part.Part.{Part}
use Rattle.sql_steps.specs.Variables.{without, within, variables_of, key_variables, answer_variables}
use Rattle.sql_steps.specs.Steps.{cell_of, fitted, part_source, children_of, known_of, rows_of_atom, hangs, are_single}
use Rattle.plan_sql.specs.Statement.{context_of, step, level_steps, bound_of, bound_for, asked_variables, asked_steps, only_of, Made, with_level, made_of, is_value_test}
use Rattle.plan_sql.specs.Laws.{SqlIsNamed}
use Rattle.sql_steps.proofs.Membership.{meets-from, within-from, ascending-from, ascending-small, without-from}
use Rattle.sql_steps.proofs.Atoms.{key-width}
use Rattle.plan_sql.proofs.Contexts.{AreAmong, loose-known, context-from}
use Rattle.plan_sql.proofs.Asking.{bound_for-in}
use Rattle.plan_sql.proofs.Exact.{answers-known}
use Rattle.plan_sql.proofs.Looking.{keys-at, keys-own}
use Rattle.sql_steps.proofs.Scopes.{AreIn, cells-in, AreAt, children-of, on-of, sources-of}
use Rattle.plan_sql.proofs.Naming.{ascending-apart, filter-apart, held-apart, named-push, width-new, AreOnly, only-more, at-more, IsBoundNamed, rows-named, IsLevelNamed, level-named}

module _ (q : Query) where
  bound-more : (ss ts : List Step) (b : Bound) → IsBoundNamed q ss b → IsBoundNamed q (ss ++ ts) b
  bound-more ss ts b h = (h.0, only-more q ss ts b.atom b.only h.1)

  -- the step that asks for keys of F
  record IsAskedNamed (before start : List Step) (number F : ℕ) (only : List Within) : Type 0 where
    named : AreNamedSteps q [] start
    grows : (ts : List Step) × (start ≡ before ++ ts)
    levels : (t : Step) → Contains start t → Contains before t ⊎ ((t.level ≡ number) × (t.kind ≡ Asked))
    looked : AreOnly q start F only

  asked-named : (F : ℕ) (lF : F < length q.atoms) (number : ℕ) (bounds : List Bound) (before : List Step) → ((b : Bound) → Contains bounds b → IsBoundNamed q before b) → AreNamedSteps q [] before →
      ((t : Step) → Contains before t → t.level < number) → IsAskedNamed before (before ++ asked_steps q number F (bound_for q bounds F)) number F (only_of q F (length before) (bound_for q bounds F))
  asked-named F lF number bounds before bound named early = go (bound_for q bounds F) refl
    where
      by : (b : Bound) → IsBoundNamed q before b → IsAskedNamed before (before ++ asked_steps q number F (Some b)) number F (only_of q F (length before) (Some b))
      by b hb = record {
        named = named-push q [] before s named (record {
          fresh = λ t m h. let l : t.level < number = early t m in let e : t.level ≡ number = h.1 in omega arith;
          body = rows-named q before b.atom hb.0 [] [] (λ p m. absurd (mem-nil p m)) tt b.only hb.1 columns (λ v m. inl (from v m).1);
          long = length-map columns (λ v. cell_of (known_of 1 [] (fitted q b.atom []).known) v);
          apart = ascending-apart (within (key_variables q F) (variables_of q b.atom));
        });
        grows = (s ∷ [], refl);
        levels = λ t m. elim (Contains-append_cases before (s ∷ []) t m) [
          | inl n ↦ inl n
          | inr n ↦ elim (mem-cases t s [] n) [ inl e ↦ inr (ap (λ (z : Step). z.level) (sym e), ap (λ (z : Step). z.kind) (sym e)) | inr z ↦ absurd (mem-nil t z) ]
        ];
        looked = looked;
      }
        where
          columns : List ℕ
          columns = asked_variables q F b.atom

          s : Step
          s = step Asked number columns (Distinct (rows_of_atom q b.atom b.only [] columns))

          from : (v : ℕ) → Contains columns v → Contains (key_variables q F) v × Contains (variables_of q b.atom) v
          from v m = within-from (key_variables q F) (variables_of q b.atom) v (ascending-from (within (key_variables q F) (variables_of q b.atom)) v m)

          looked : AreOnly q (before ++ s ∷ []) F (only_of q F (length before) (Some b))
          looked o m =
              let k = keys-own q F lF (length before) columns (λ v n. (from v n).0) o m in
              let r = keys-at q F lF (length before) columns (λ v n. (from v n).0) o m in (
                (k.0, key-width q F lF k.0 k.1, k.2),
                subst (λ (z : Within). z.column < width q (before ++ s ∷ []) (Earlier z.step)) r.2 (subst (λ z. r.0 < z) (sym (width-new q before s (length before) refl)) r.1),
              )

      go : (found : Option Bound) → bound_for q bounds F ≡ found → IsAskedNamed before (before ++ asked_steps q number F found) number F (only_of q F (length before) found)
      go None e = record {
        named = subst (AreNamedSteps q []) (sym (append-nil before)) named;
        grows = ([], refl);
        levels = λ t m. inl (subst (λ z. Contains z t) (append-nil before) m);
        looked = λ o m. absurd (mem-nil o m);
      }
      go (Some b) e = by b (bound b (bound_for-in q (λ F. []) bounds F b e))

  -- the steps of a plan, and its parts
  pub record IsMadeNamed (number : ℕ) (known : List ℕ) (before : List Step) (made : Made) : Type 0 where
    pub named : AreNamedSteps q [] made.steps
    pub grows : (ts : List Step) × (made.steps ≡ before ++ ts)
    pub levels : (t : Step) → Contains made.steps t → Contains before t ⊎ (number ≤ t.level)
    pub at : AreAt q made.steps made.parts
    pub late : (p : Part) → Contains made.parts p → number ≤ p.number
    pub apart : AreDifferent (map (λ (p : Part). p.number) made.parts)
    pub over : AreAmong known made.parts

  module _ (F : ℕ) (lF : F < length q.atoms) (number : ℕ) (known : List ℕ) (bounds : List Bound) (before : List Step) (bound : (b : Bound) → Contains bounds b → IsBoundNamed q before b)
      (first : AreNamedSteps q [] before) (early : (t : Step) → Contains before t → t.level < number) where
    abbrev start : List Step
    start = before ++ asked_steps q number F (bound_for q bounds F)

    abbrev only : List Within
    only = only_of q F (length before) (bound_for q bounds F)

    abbrev next : List Bound
    next = bound_of q bounds F only ∷ bounds

    ask : IsAskedNamed before start number F only
    ask = asked-named F lF number bounds before bound first early

    pub next-bound : (b : Bound) → Contains next b → IsBoundNamed q start b
    next-bound b m = elim (mem-cases b (bound_of q bounds F only) bounds m) [
      | inl e ↦ subst (λ z. IsBoundNamed q start z) e (lF, ask.looked)
      | inr n ↦ subst (λ z. IsBoundNamed q z b) (sym ask.grows.1) (bound-more before ask.grows.0 b (bound b n))
    ]

    pub next-early : (t : Step) → Contains start t → t.level < suc number
    next-early t m = elim (ask.levels t m) [ inl n ↦ (let l : t.level < number = early t n in omega arith) | inr n ↦ (let e : t.level ≡ number = n.0 in omega arith) ]

    module _ (later : Made) (done : IsMadeNamed (suc number) (known ++ variables_of q F) start later) where
      abbrev kids : List Part
      kids = filter (λ p. hangs q known F p) later.parts

      abbrev others : List Part
      others = filter (λ p. not (hangs q known F p)) later.parts

      abbrev context : List ℕ
      context = context_of q known F kids

      abbrev steps : List Step
      steps = later.steps ++ level_steps q number F context only bounds kids (length later.steps)

      at-of : (test : Part → Bool) → AreAt q later.steps (filter test later.parts)
      at-of test p m = done.at p ((Contains-filter test later.parts p).0 m).0

      looked : AreOnly q later.steps F only
      looked = subst (λ z. AreOnly q z F only) (sym done.grows.1) (only-more q start done.grows.0 F only ask.looked)

      fresh : (t : Step) → Contains later.steps t → t.level ≡ number → t.kind ≡ Asked
      fresh t m e = elim (done.levels t m) [
        | inl n ↦ elim (ask.levels t n) [ inl o ↦ absurd (let l : t.level < number = early t o in omega (arith, e)) | inr o ↦ o.1 ]
        | inr n ↦ absurd (let l : suc number ≤ t.level = n in omega (arith, e))
      ]

      linked : (p : Part) → Contains kids p → (v : ℕ) × Contains p.columns v × Contains (variables_of q F) v
      linked p m =
          let r = meets-from p.columns (without (variables_of q F) known) ((Contains-filter (λ (z : Part). hangs q known F z) later.parts p).0 m).1 in
          (r.0, r.1, (without-from (variables_of q F) known r.0 r.2).0)

      among : AreAmong (known ++ variables_of q F) kids
      among p m = done.over p ((Contains-filter (λ (z : Part). hangs q known F z) later.parts p).0 m).0

      still : (b : Bound) → Contains bounds b → IsBoundNamed q later.steps b
      still b m = subst (λ z. IsBoundNamed q z b) (sym (done.grows.1 ∙ ap (λ z. z ++ done.grows.0) ask.grows.1)) (bound-more (before ++ ask.grows.0) done.grows.0 b (bound-more before ask.grows.0 b (bound b m)))

      lv : IsLevelNamed q later.steps F lF known kids (at-of (λ p. hangs q known F p)) (filter-apart (λ p. hangs q known F p) (λ (p : Part). p.number) later.parts done.apart) only looked number done.named fresh linked among bounds still steps
      lv = level-named q later.steps F lF known kids (at-of (λ p. hangs q known F p)) (filter-apart (λ p. hangs q known F p) (λ (p : Part). p.number) later.parts done.apart) only looked number done.named fresh linked among bounds still

      abbrev part : Part
      part = record { number = number; step = length steps - 1; columns = context; keys = key_variables q F; single = are_single (variables_of q F) kids; rare = list_any (λ k. is_value_test F k) q.conds || list_any (λ (p : Part). p.rare) kids }

      other-late : (p : Part) → Contains others p → suc number ≤ p.number
      other-late p m = done.late p ((Contains-filter (λ (z : Part). not (hangs q known F z)) later.parts p).0 m).0

      pub made-level : IsMadeNamed number known before (with_level q number known bounds only F later)
      made-level = record {
        named = lv.named;
        grows = (
          ask.grows.0 ++ (done.grows.0 ++ lv.grows.0),
          lv.grows.1 ∙ ap (λ z. z ++ lv.grows.0) done.grows.1 ∙ append_assoc start done.grows.0 lv.grows.0 ∙ ap (λ z. z ++ (done.grows.0 ++ lv.grows.0)) ask.grows.1 ∙ append_assoc before ask.grows.0 (done.grows.0 ++ lv.grows.0),
        );
        levels = λ t m. elim (lv.levels t m) [
          | inl n ↦ elim (done.levels t n) [
            | inl o ↦ elim (ask.levels t o) [ inl k ↦ inl k | inr k ↦ inr (let e : t.level ≡ number = k.0 in omega arith) ]
            | inr o ↦ inr (let l : suc number ≤ t.level = o in omega arith)
          ]
          | inr n ↦ inr (let e : t.level ≡ number = n in omega arith)
        ];
        at = λ p m. elim (mem-cases p part others m) [
          | inl e ↦ subst (λ (z : Part). (z.step < length steps) × (width q steps (Earlier z.step) ≡ length z.columns) × ShowsOne steps (Earlier z.step)) e ((let l : length later.steps < length steps = lv.some in omega arith), lv.shows, lv.one)
          | inr n ↦ subst (λ z. (p.step < length z) × (width q z (Earlier p.step) ≡ length p.columns) × ShowsOne z (Earlier p.step)) (sym lv.grows.1) (at-more q later.steps lv.grows.0 others (at-of (λ z. not (hangs q known F z))) p n)
        ];
        late = λ p m. elim (mem-cases p part others m) [ inl e ↦ subst (λ (z : Part). number ≤ z.number) e (omega arith) | inr n ↦ (let l : suc number ≤ p.number = other-late p n in omega arith) ];
        apart = (
          (λ y m e.
              let r = Contains-from_map (λ (z : Part). z.number) others y m in
              let l : suc number ≤ r.0.number = other-late r.0 r.1 in
              let f : number ≡ r.0.number = e ∙ sym r.2 in
              omega arith),
          filter-apart (λ p. not (hangs q known F p)) (λ (p : Part). p.number) later.parts done.apart,
        );
        over = λ p m v n. elim (mem-cases p part others m) [
          | inl e ↦ own v (subst (λ (z : Part). Contains z.columns v) (sym e) n)
          | inr o ↦ other p ((Contains-filter (λ (z : Part). not (hangs q known F z)) later.parts p).0 o) v n
        ];
      }
        where
          own : (v : ℕ) → Contains context v → Contains known v × (v < 192)
          own v n = ((context-from q F lF known kids v n).0, ascending-small (within (variables_of q F ++ flat_map (λ (p : Part). p.columns) kids) known) v n)

          other : (p : Part) → Contains later.parts p × (not (hangs q known F p) ≡ true) → (v : ℕ) → Contains p.columns v → Contains known v × (v < 192)
          other p r v n = let a = done.over p r.0 v n in (loose-known q F known p r.1 v n a.0, a.1)

  pub made-named : (plan : List ℕ) → ((G : ℕ) → Contains plan G → G < length q.atoms) → (number : ℕ) (known : List ℕ) (bounds : List Bound) (before : List Step) → ((b : Bound) → Contains bounds b → IsBoundNamed q before b) →
      AreNamedSteps q [] before → ((t : Step) → Contains before t → t.level < number) → IsMadeNamed number known before (made_of q number known bounds before plan)
  made-named [] there number known bounds before bound first early = record {
    named = first;
    grows = ([], sym (append-nil before));
    levels = λ t m. inl m;
    at = λ p m. absurd (mem-nil p m);
    late = λ p m. absurd (mem-nil p m);
    apart = tt;
    over = λ p m. absurd (mem-nil p m);
  }
  made-named (F ∷ plan) there number known bounds before bound first early =
      let lF : F < length q.atoms = there F (mem-head F plan) in
      made-level F lF number known bounds before bound first early
      (made_of q (suc number) (known ++ variables_of q F) (next F lF number known bounds before bound first early) (start F lF number known bounds before bound first early) plan)
      (made-named plan (λ G m. there G (mem-tail G F plan m)) (suc number) (known ++ variables_of q F) (next F lF number known bounds before bound first early) (start F lF number known bounds before bound first early)
      (next-bound F lF number known bounds before bound first early) (ask F lF number known bounds before bound first early).named (next-early F lF number known bounds before bound first early))

pub sql_is_named : SqlIsNamed
sql_is_named q [] is_plan = absurd (is_plan 0 (omega (arith, q.kept.size.0)))
sql_is_named q (F ∷ plan) is_plan = record {
  steps = h.named;
  last = record {
    sources = subst (AreSources q made.steps) (sym (sources-of q made.steps made.parts 0 [])) (record {
      some = omega arith;
      there = λ l m. let r = Contains-from_map (λ (p : Part). part_source p) made.parts l m in subst (λ (z : Listed). IsThere q made.steps z.source) r.2 (h.at r.0 r.1).0;
      apart = held-apart made.parts h.apart;
    });
    cells = cells-in q made.steps (map (λ (c : Child). c.listed) children) (known_of 0 made.parts []) (answer_variables q) c.1 (answers-known q (F ∷ plan) is_plan);
    all = on-of q made.steps children [] c.0;
    only = λ o m. absurd (mem-nil o m);
  };
  long = length-map (answer_variables q) (λ v. cell_of (known_of 0 made.parts []) v) ∙ length-map q.answer (λ (c : ColRef). slice_index (variables_of q c.atom) c.col);
}
  where
    made : Made
    made = made_of q 1 (answer_variables q) [] [] (F ∷ plan)

    h : IsMadeNamed q 1 (answer_variables q) [] made
    h = made-named q (F ∷ plan) (plan-atoms q (F ∷ plan) (plan-eliminates q (whole q) (F ∷ plan) is_plan)) 1 (answer_variables q) [] [] (λ b m. absurd (mem-nil b m)) tt (λ t m. absurd (mem-nil t m))

    children : List Child
    children = children_of 0 made.parts []

    c : AreChildrenOf q made.steps [] children × AreIn q made.steps (map (λ (z : Child). z.listed) children) (known_of 0 made.parts [])
    c = children-of q made.steps made.parts [] 0 [] refl (λ p m. let r = h.at p m in (r.0, r.1)) (λ k m. absurd (mem-nil k m))
