-- Where a plan holds, each repair has a witness; and a row in a witness fits.
use Rattle.std.proofs.Common.{◌≡◌, ℕ, suc, ◌<◌, inl, inr, List, [], ◌∷◌, length, get_or, map, refl, ap, sym, ◌∙◌, subst, arith, Contains}
use native.Mathlib.Decide.{ℕ_discrete}
use Rattle.std.proofs.lemmas.List.Elements.{Contains-get_or}
use Rattle.std.proofs.lemmas.List.{get_or-map}
use Rattle.cqa_model.specs.declared.query.Cond.{Cond}
use Rattle.cqa_model.specs.declared.query.Cond.TheVariants.{Join, Test}
use Rattle.cqa_model.specs.declared.query.ColRef.{ColRef}
use Rattle.cqa_model.specs.declared.query.Query.{Query}
use Rattle.cqa_value.specs.declared.value.Value.{Value}
use Rattle.cqa_model.specs.Shape.{IsInRange, columns_of}
use Rattle.cqa_model.specs.Query.{OpHolds, atom_at, atom_key, rows_of, row_at, value, CondHolds}
use Rattle.cqa_model.specs.Repairs.{SharesKey, IsRepairBy}
use Rattle.cqa_model.proofs.Fitting.{FitsTables}
use Rattle.cqa_model.specs.Database.{nothing}
use Rattle.cqa_model.specs.Variables.{AreLinked}
use Rattle.cqa_model.specs.Plan.{Placed, TestHolds, Fits, PlanHolds, IsElimination}
use Rattle.cqa_model.specs.Partial.{view_of, AllFit, IsPartial}
use Rattle.cqa_model.proofs.Classic.{choose, mem-head, mem-tail, mem-nil, mem-cases}
use Rattle.cqa_model.proofs.Views.{linked-sym, linked-join, value-linked, view-in_range, view-not_taken, taken-in_range}
use Rattle.cqa_model.proofs.Reification.{placed, kept-stored, row_of_block}

pub map_is : {A : Type 0} (f : A → Value) (d : A) (xs : List A) (ys : List Value) → length ys ≡ length xs →
    ((i : ℕ) → i < length xs → f (get_or xs i d) ≡ get_or ys i nothing) → map f xs ≡ ys
map_is f d [] [] l h = refl
map_is f d [] (y ∷ ys) l h = absurd (omega arith)
map_is f d (x ∷ xs) [] l h = absurd (omega arith)
map_is f d (x ∷ xs) (y ∷ ys) l h =
    let e : f x ≡ y = h 0 (omega arith) in
    let es : map f xs ≡ ys = map_is f d xs ys (omega arith) (λ i k. h (suc i) (omega arith)) in
    cc

module _ (q : Query) (row : List Value) where
  -- the rows taken are of different atoms, and fit each other
  pub taken-one : (taken : List Placed) → AllFit q row taken → (t u : Placed) → Contains taken t → Contains taken u → t.atom ≡ u.atom → t ≡ u
  taken-one [] all t u mt mu e = absurd (mem-nil t mt)
  taken-one (s ∷ ss) all t u mt mu e = elim (mem-cases t s ss mt) [
    | inl et ↦ elim (mem-cases u s ss mu) [
      | inl eu ↦ sym et ∙ eu
      | inr nu ↦ absurd (view-not_taken q ss u nu (subst (λ z. (view_of q ss).has z) (ap (λ z. z.atom) et ∙ e) all.0))
    ]
    | inr nt ↦ elim (mem-cases u s ss mu) [
      | inl eu ↦ absurd (view-not_taken q ss t nt (subst (λ z. (view_of q ss).has z) (ap (λ z. z.atom) eu ∙ sym e) all.0))
      | inr nu ↦ taken-one ss all.2 t u nt nu e
    ]
  ]

  taken-agree : (taken : List Placed) → AllFit q row taken → (t u : Placed) → Contains taken t → Contains taken u →
      (i j : ℕ) → i < (atom_at q t.atom).width → j < (atom_at q u.atom).width →
      AreLinked q (record { atom = t.atom; col = i }) (record { atom = u.atom; col = j }) → get_or t.row i nothing ≡ get_or u.row j nothing
  taken-agree [] all t u mt mu i j li lj l = absurd (mem-nil t mt)
  taken-agree (s ∷ ss) all t u mt mu i j li lj l = elim (mem-cases t s ss mt) [
    | inl et ↦ first t u mu i j li lj l et
    | inr nt ↦ elim (mem-cases u s ss mu) [
      | inl eu ↦ sym (first u t mt j i lj li (linked-sym q (record { atom = t.atom; col = i }) (record { atom = u.atom; col = j }) l) eu)
      | inr nu ↦ taken-agree ss all.2 t u nt nu i j li lj l
    ]
  ]
    where
      first : (t u : Placed) → Contains (s ∷ ss) u → (i j : ℕ) → i < (atom_at q t.atom).width → j < (atom_at q u.atom).width →
          AreLinked q (record { atom = t.atom; col = i }) (record { atom = u.atom; col = j }) → s ≡ t → get_or t.row i nothing ≡ get_or u.row j nothing
      first t u mu i j li lj l e =
          ap (λ z. get_or z.row i nothing) (sym e)
          ∙ all.1.agrees u mu i (subst (λ z. i < (atom_at q z.atom).width) (sym e) li) j lj (subst (λ z. AreLinked q (record { atom = z.atom; col = i }) (record { atom = u.atom; col = j })) (sym e) l)

  taken-fits : (taken : List Placed) → AllFit q row taken → (t : Placed) → Contains taken t → (ts : List Placed) × Fits q row ts t.atom t.row
  taken-fits [] all t m = absurd (mem-nil t m)
  taken-fits (s ∷ ss) all t m = elim (mem-cases t s ss m) [
    | inl e ↦ (ss, subst (λ z. Fits q row ss z.atom z.row) e all.1)
    | inr n ↦ taken-fits ss all.2 t n
  ]

  pub view-taken : (taken : List Placed) (F : ℕ) → F < length q.atoms → ((view_of q taken).has F → ⊥) → (t : Placed) × Contains taken t × (t.atom ≡ F)
  view-taken [] F l h = absurd (h l)
  view-taken (t ∷ ts) F l h = go (ℕ_discrete F t.atom) (λ k. view-taken ts F l k)
    where
      go : Dec (F ≡ t.atom) → (((view_of q ts).has F → ⊥) → (u : Placed) × Contains ts u × (u.atom ≡ F)) → (u : Placed) × Contains (t ∷ ts) u × (u.atom ≡ F)
      go (yes e) next = (t, mem-head t ts, sym e)
      go (no ne) next = let r = next (λ k. h (k, ne)) in (r.0, mem-tail r.0 t ts r.1, r.2)

module _ (q : Query) (keys : List (List ℕ)) (tables : List (List (List Value))) (fits : FitsTables q keys tables) (row : List Value) (long : length row ≡ length q.answer) where
  -- where no atom is left, the rows taken are a witness
  pub full : (taken : List Placed) → AllFit q row taken → ((F : ℕ) → (view_of q taken).has F → ⊥) → (r : List (List (List Value))) →
      (w : List (List Value)) × IsPartial q row taken r w
  full taken all none r = make (choose [] (length q.atoms) (λ F x. (t : Placed) × Contains taken t × (t.atom ≡ F) × (x ≡ t.row))
      (λ F l. let t = view-taken q row taken F l (none F) in (t.0.row, (t.0, t.1, t.2, refl))))
    where
      make : (w : List (List Value)) × (length w ≡ length q.atoms) × ((F : ℕ) → F < length q.atoms → (t : Placed) × Contains taken t × (t.atom ≡ F) × (get_or w F [] ≡ t.row)) →
          (w : List (List Value)) × IsPartial q row taken r w
      make (w, size, at) = (
        w,
        record {
          size = size;
          keeps = λ F has. absurd (none F has);
          holds = λ k m. holds k m (q.kept.conds_in_range k m);
          answers = map_is (value w) (record { atom = 0; col = 0 }) q.answer row long answers;
          extends = λ t m. extends t m (at t.atom (taken-in_range q row taken all t m));
        },
      )
        where
          extends : (t : Placed) → Contains taken t → (u : Placed) × Contains taken u × (u.atom ≡ t.atom) × (row_at w t.atom ≡ u.row) → row_at w t.atom ≡ t.row
          extends t m (u, mu, e, h) = h ∙ ap (λ z. z.row) (taken-one q row taken all u t mu m e)

          holds : (k : Cond) → Contains q.conds k → ((c : ColRef) → Contains (columns_of k) c → IsInRange q.atoms c) → CondHolds w k
          holds (Join c d) m in_range = go (at c.atom hc.0) (at d.atom hd.0)
            where
              hc : IsInRange q.atoms c
              hc = in_range c (mem-head c (d ∷ []))

              hd : IsInRange q.atoms d
              hd = in_range d (mem-tail d c (d ∷ []) (mem-head d []))

              go : (u : Placed) × Contains taken u × (u.atom ≡ c.atom) × (row_at w c.atom ≡ u.row) → (v : Placed) × Contains taken v × (v.atom ≡ d.atom) × (row_at w d.atom ≡ v.row) → value w c ≡ value w d
              go (u, mu, eu, hu) (v, mv, ev, hv) =
                  ap (λ x. get_or x c.col nothing) hu
                  ∙ taken-agree q row taken all u v mu mv c.col d.col (subst (λ z. c.col < (atom_at q z).width) (sym eu) hc.1) (subst (λ z. d.col < (atom_at q z).width) (sym ev) hd.1)
                  (subst (λ z. AreLinked q (record { atom = z; col = c.col }) (record { atom = v.atom; col = d.col })) (sym eu)
                  (subst (λ z. AreLinked q c (record { atom = z; col = d.col })) (sym ev) (linked-join q c d (inl m))))
                  ∙ sym (ap (λ x. get_or x d.col nothing) hv)
          holds (Test c op x) m in_range = go (at c.atom (in_range c (mem-head c [])).0)
            where
              go : (u : Placed) × Contains taken u × (u.atom ≡ c.atom) × (row_at w c.atom ≡ u.row) → OpHolds op (value w c) x
              go (u, mu, eu, hu) = subst (λ z. OpHolds op (get_or z c.col nothing) x) (sym hu) ((taken-fits q row taken all u mu).1.tests (Test c op x) m (sym eu))

          answers : (i : ℕ) → i < length q.answer → value w (get_or q.answer i (record { atom = 0; col = 0 })) ≡ get_or row i nothing
          answers i l = go (at (get_or q.answer i (record { atom = 0; col = 0 })).atom (q.kept.answer_in_range (get_or q.answer i (record { atom = 0; col = 0 })) (Contains-get_or q.answer i (record { atom = 0; col = 0 }) l)).0)
            where
              go : (u : Placed) × Contains taken u × (u.atom ≡ (get_or q.answer i (record { atom = 0; col = 0 })).atom) × (row_at w (get_or q.answer i (record { atom = 0; col = 0 })).atom ≡ u.row) →
                  value w (get_or q.answer i (record { atom = 0; col = 0 })) ≡ get_or row i nothing
              go (u, mu, eu, hu) = ap (λ x. get_or x (get_or q.answer i (record { atom = 0; col = 0 })).col nothing) hu ∙ (taken-fits q row taken all u mu).1.answers i l (sym eu)

  abbrev pub HasWitness : List Placed → List (List (List Value)) → Type 0
  HasWitness taken r = (w : List (List Value)) × IsPartial q row taken r w

  -- a witness with F's row taken is one without
  pub forget : (taken : List Placed) (r : List (List (List Value))) (F : ℕ) (y : List Value) → Contains (rows_of q r F) y → (w : List (List Value)) →
      IsPartial q row (placed F y ∷ taken) r w → IsPartial q row taken r w
  forget taken r F y my w h = record {
    size = h.size;
    holds = h.holds;
    answers = h.answers;
    extends = λ t m. h.extends t (mem-tail t (placed F y) taken m);
    keeps = λ K has. go K has (ℕ_discrete K F);
  }
    where
      go : (K : ℕ) → (view_of q taken).has K → Dec (K ≡ F) → Contains (rows_of q r K) (row_at w K)
      go K has (no ne) = h.keeps K (has, ne)
      go K has (yes e) = subst (λ z. Contains (rows_of q r z) (row_at w z)) (sym e) (subst (λ z. Contains (rows_of q r F) z) (sym (h.extends (placed F y) (mem-head (placed F y) taken))) my)

  -- where an elimination order holds, each repair has a witness
  pub sound : (plan : List ℕ) (taken : List Placed) → AllFit q row taken → IsElimination q (view_of q taken) plan → PlanHolds q tables row taken plan →
      (r : List (List (List Value))) → IsRepairBy keys tables r → HasWitness taken r
  sound [] taken all none holds r hr = full taken all none r
  sound (F ∷ plan) taken all (has, free, rest) (x, mx, block) r hr =
      go (row_of_block q keys tables fits row taken all r hr F lF x mx) (λ y fy hy. sound plan (placed F y ∷ taken) (has, fy, all) rest hy r hr)
    where
      lF : F < length q.atoms
      lF = view-in_range q taken F has

      go : (y : List Value) × (Contains (rows_of q r F) y × SharesKey (atom_key q F) x y) →
          ((y : List Value) → Fits q row taken F y → PlanHolds q tables row (placed F y ∷ taken) plan → HasWitness (placed F y ∷ taken) r) → HasWitness taken r
      go (y, (my, s)) next =
          let b = block y (kept-stored q keys tables fits row taken all r hr F lF y my) s in
          let w = next y b.0 b.1 in
          (w.0, forget taken r F y my w.0 w.1)

  -- a row of F in a witness fits the rows taken
  pub fits_of : (taken : List Placed) (r : List (List (List Value))) (F : ℕ) (y : List Value) (w : List (List Value)) → IsPartial q row (placed F y ∷ taken) r w → Fits q row taken F y
  fits_of taken r F y w h = record { agrees = agrees; tests = tests; answers = answers }
    where
      at_F : row_at w F ≡ y
      at_F = h.extends (placed F y) (mem-head (placed F y) taken)

      agrees : (t : Placed) → Contains (placed F y ∷ taken) t → (i : ℕ) → i < (atom_at q F).width → (j : ℕ) → j < (atom_at q t.atom).width →
          AreLinked q (record { atom = F; col = i }) (record { atom = t.atom; col = j }) → get_or y i nothing ≡ get_or t.row j nothing
      agrees t m i li j lj l = ap (λ z. get_or z i nothing) (sym at_F) ∙ value-linked q w h.holds (record { atom = F; col = i }) (record { atom = t.atom; col = j }) l ∙ ap (λ z. get_or z j nothing) (h.extends t m)

      tests : (k : Cond) → Contains q.conds k → TestHolds F y k
      tests (Join c d) m = tt
      tests (Test c op x) m = λ e. subst (λ z. OpHolds op (get_or z c.col nothing) x) (ap (λ z. row_at w z) e ∙ at_F) (h.holds (Test c op x) m)

      answers : (i : ℕ) → i < length q.answer → (get_or q.answer i (record { atom = 0; col = 0 })).atom ≡ F → get_or y (get_or q.answer i (record { atom = 0; col = 0 })).col nothing ≡ get_or row i nothing
      answers i l e =
          ap (λ z. get_or z (get_or q.answer i (record { atom = 0; col = 0 })).col nothing) (sym at_F ∙ ap (λ z. row_at w z) (sym e))
          ∙ sym (get_or-map (value w) q.answer i (record { atom = 0; col = 0 }) nothing l) ∙ ap (λ z. get_or z i nothing) h.answers
