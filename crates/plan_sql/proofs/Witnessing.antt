-- Assignments of values to variables, and the rows that a plan takes.
use Rattle.std.proofs.Common.{◌≡◌, ℕ, ◌<◌, ◌⊎◌, inl, inr, List, ◌∷◌, length, get_or, refl, ap, sym, ◌∙◌, subst, Contains}
use Rattle.std.proofs.lemmas.List.{get_or-map}
use Rattle.std.proofs.lemmas.List.Elements.{Contains-get_or}
use Rattle.cqa_value.specs.declared.value.Value.{Value}
use Rattle.cqa_model.specs.declared.query.Cond.{Cond}
use Rattle.cqa_model.specs.declared.query.Cond.TheVariants.{Join, Test}
use Rattle.cqa_model.specs.declared.query.ColRef.{ColRef}
use Rattle.cqa_model.specs.declared.query.Query.{Query}
use Rattle.cqa_model.specs.Database.{nothing}
use Rattle.cqa_model.specs.Shape.{IsInRange}
use Rattle.cqa_model.specs.Query.{OpHolds, atom_at, rows_of, row_at, value}
use Rattle.cqa_model.specs.Labels.{label, column}
use Rattle.cqa_model.specs.Repairs.{IsRepairBy}
use Rattle.cqa_model.specs.Partial.{view_of, AllFit, IsPartial}
use Rattle.cqa_model.specs.Plan.{Placed, TestHolds, answer_at, Fits, PlanHolds, IsPlan}
use Rattle.cqa_model.proofs.Classic.{mem-head, mem-tail, mem-cases}
use Rattle.cqa_model.proofs.Columns.{range-small, least-of, column-number}
use Rattle.cqa_model.proofs.Existence.{some_repair}
use Rattle.cqa_model.proofs.Elimination.{plan-eliminates}
use Rattle.cqa_model.proofs.Exactness.{sound}
use Rattle.cqa_model.proofs.Fitting.{FitsTables}
use Rattle.cqa_model.proofs.Labels.{label-linked}
use Rattle.cqa_model.proofs.Reification.{kept-stored, placed}
use Rattle.cqa_model.proofs.Views.{value-linked, view-in_range, taken-in_range}
use Rattle.sql_steps.proofs.Suiting.{variable, Suits}

module _ (q : Query) (row : List Value) where
  -- an assignment has the values of the candidate and of the rows taken
  pub record Agrees (env : ℕ → Value) (taken : List Placed) : Type 0 where
    pub rows : (t : Placed) → Contains taken t → (j : ℕ) → j < (atom_at q t.atom).width → get_or t.row j nothing ≡ env (variable q t.atom j)
    pub answers : (i : ℕ) → i < length q.answer → get_or row i nothing ≡ env (variable q (answer_at q i).atom (answer_at q i).col)

  -- a variable of an answer column, or of a row taken
  abbrev pub IsFixed : List Placed → ℕ → Type 0
  IsFixed taken v =
      ((i : ℕ) × (i < length q.answer) × (v ≡ variable q (answer_at q i).atom (answer_at q i).col))
      ⊎ ((t : Placed) × Contains taken t × ((j : ℕ) × (j < (atom_at q t.atom).width) × (v ≡ variable q t.atom j)))

  pub agrees-more : (e : ℕ → Value) (taken : List Placed) (F : ℕ) (y : List Value) → Agrees e taken → Suits q e F y → Agrees e (placed F y ∷ taken)
  agrees-more e taken F y a s = record {
    rows = λ t m j l. elim (mem-cases t (placed F y) taken m) [
      | inl g ↦ subst (λ (z : Placed). (k : ℕ) → k < (atom_at q z.atom).width → get_or z.row k nothing ≡ e (variable q z.atom k)) g s.values j l
      | inr n ↦ a.rows t n j l
    ];
    answers = a.answers;
  }

  -- an assignment that keeps what is fixed agrees as well
  pub agrees-kept : (env e : ℕ → Value) (taken : List Placed) → ((v : ℕ) → IsFixed taken v → e v ≡ env v) → Agrees env taken → Agrees e taken
  agrees-kept env e taken k a = record {
    rows = λ t m j l. a.rows t m j l ∙ sym (k (variable q t.atom j) (inr (t, m, (j, l, refl))));
    answers = λ i l. a.answers i l ∙ sym (k (variable q (answer_at q i).atom (answer_at q i).col) (inl (i, l, refl)));
  }

  -- assignments that agree are the same on what is fixed
  pub fixed-same : (env e : ℕ → Value) (taken : List Placed) → Agrees env taken → Agrees e taken → (v : ℕ) → IsFixed taken v → e v ≡ env v
  fixed-same env e taken a b v (inl (i, l, g)) = ap e g ∙ sym (b.answers i l) ∙ a.answers i l ∙ ap env (sym g)
  fixed-same env e taken a b v (inr (t, m, (j, l, g))) = ap e g ∙ sym (b.rows t m j l) ∙ a.rows t m j l ∙ ap env (sym g)

  pub agrees-less : (e : ℕ → Value) (t : Placed) (taken : List Placed) → Agrees e (t ∷ taken) → Agrees e taken
  agrees-less e t taken a = record { rows = λ u m j l. a.rows u (mem-tail u t taken m) j l; answers = a.answers }

  pub agrees-suits : (e : ℕ → Value) (F : ℕ) (y : List Value) (taken : List Placed) → Agrees e (placed F y ∷ taken) → Fits q row taken F y → Suits q e F y
  agrees-suits e F y taken a f = record { values = λ i l. a.rows (placed F y) (mem-head (placed F y) taken) i l; tests = f.tests }

  -- a row that suits an assignment fits the rows taken
  pub fits-from : (e : ℕ → Value) (taken : List Placed) (F : ℕ) (y : List Value) → Agrees e taken → Suits q e F y → Fits q row taken F y
  fits-from e taken F y a s = record {
    agrees = λ t m i li j lj l.
        let more = agrees-more e taken F y a s in
        s.values i li ∙ ap e (label-linked q.conds (record { atom = F; col = i }) (record { atom = t.atom; col = j }) l) ∙ sym (more.rows t m j lj);
    tests = s.tests;
    answers = λ i l g.
        let r : IsInRange q.atoms (answer_at q i) = q.kept.answer_in_range (answer_at q i) (Contains-get_or q.answer i (record { atom = 0; col = 0 }) l) in
        s.values (answer_at q i).col (subst (λ z. (answer_at q i).col < (atom_at q z).width) g r.1)
        ∙ ap (λ z. e (variable q z (answer_at q i).col)) (sym g) ∙ sym (a.answers i l);
  }

  module _ (keys : List (List ℕ)) (tables : List (List (List Value))) (fits : FitsTables q keys tables) (long : length row ≡ length q.answer) where
    -- an assignment that agrees, with a stored row for each atom that is left
    pub record Witnessed (taken : List Placed) (e : ℕ → Value) : Type 0 where
      pub agrees : Agrees e taken
      pub left : (G : ℕ) → (view_of q taken).has G → (z : List Value) × Contains (rows_of q tables G) z × Suits q e G z

    pub witness : (taken : List Placed) → AllFit q row taken → (plan : List ℕ) → IsPlan q (view_of q taken) plan → PlanHolds q tables row taken plan → (e : ℕ → Value) × Witnessed taken e
    witness taken all plan is_plan holds = make (some_repair keys tables)
      where
        make : (r : List (List (List Value))) × IsRepairBy keys tables r → (e : ℕ → Value) × Witnessed taken e
        make (r, hr) = from (sound q keys tables fits row long plan taken all (plan-eliminates q (view_of q taken) plan is_plan) holds r hr)
          where
            from : (w : List (List Value)) × IsPartial q row taken r w → (e : ℕ → Value) × Witnessed taken e
            from (w, h) = (e, record { agrees = agrees; left = left })
              where
                e : ℕ → Value
                e v = value w (column v)

                valued : (c : ColRef) → IsInRange q.atoms c → value w c ≡ e (label q.conds c)
                valued c l =
                    let n = least-of q c l in
                    value-linked q w h.holds c n.0 n.2 ∙ ap (value w) (sym (column-number n.0 (range-small q n.0 n.1).1)) ∙ ap e n.4

                agrees : Agrees e taken
                agrees = record {
                  rows = λ t m j l. ap (λ z. get_or z j nothing) (sym (h.extends t m)) ∙ valued (record { atom = t.atom; col = j }) (taken-in_range q row taken all t m, l);
                  answers = λ i l.
                      ap (λ z. get_or z i nothing) (sym h.answers) ∙ get_or-map (value w) q.answer i (record { atom = 0; col = 0 }) nothing l
                      ∙ valued (answer_at q i) (q.kept.answer_in_range (answer_at q i) (Contains-get_or q.answer i (record { atom = 0; col = 0 }) l));
                }

                left : (G : ℕ) → (view_of q taken).has G → (z : List Value) × Contains (rows_of q tables G) z × Suits q e G z
                left G has = (
                  row_at w G,
                  kept-stored q keys tables fits row taken all r hr G (view-in_range q taken G has) (row_at w G) (h.keeps G has),
                  record { values = λ i l. valued (record { atom = G; col = i }) (view-in_range q taken G has, l); tests = tests },
                )
                  where
                    tests : (k : Cond) → Contains q.conds k → TestHolds G (row_at w G) k
                    tests (Join c d) m = tt
                    tests (Test c op x) m = λ g. subst (λ z. OpHolds op (get_or (row_at w z) c.col nothing) x) g (h.holds (Test c op x) m)
