-- The keys of a repair, which are those of the rows of an atom in its witnesses: they are decided, and can be taken away.
use Rattle.std.proofs.Common.{◌≡◌, ℕ, zero, suc, ◌<◌, ◌≤◌, ◌⊎◌, inl, inr, List, [], ◌∷◌, length, get_or, map, refl, ap, sym, ◌∙◌, subst, arith, Contains}
use native.Mathlib.Decide.{ℕ_discrete, dec_lt}
use mathlib.Core.List.{List-discrete}
use Rattle.cqa_model.specs.declared.query.Cond.{Cond}
use Rattle.cqa_model.specs.declared.query.Query.{Query}
use Rattle.cqa_value.specs.declared.value.Value.{Value}
use Rattle.cqa_model.specs.Query.{atom_key, rows_of, row_at, value, CondHolds}
use Rattle.cqa_model.specs.Repairs.{SharesKey, IsRepairBy}
use Rattle.cqa_model.proofs.Fitting.{FitsTables}
use Rattle.cqa_model.specs.Plan.{Placed, IsUnattacked}
use Rattle.cqa_model.specs.Partial.{view_of, AllFit, IsPartial}
use Rattle.cqa_model.proofs.Classic.{mem-head, mem-tail, mem-nil, mem-cases, mem-eq, dec_both, dec_if, dec_each, dec_mem, find_below}
use Rattle.cqa_model.proofs.Values.{dec_by, dec_not, value_discrete}
use Rattle.cqa_model.proofs.Repairs.{shares-sym, shares-trans, dec_shares}
use Rattle.cqa_model.proofs.Views.{view-in_range, taken-in_range}
use Rattle.cqa_model.proofs.Agreement.{one_of_atom}
use Rattle.cqa_model.proofs.Reification.{placed, row_of_block, replaced, replaced-repair, replaced-elsewhere, replaced-into, LacksKey, below-self, below-trans, lacks-below, IsTowards, IsNearer, nearer, IsWithout, kept_rows, kept_rows-all}
use Rattle.cqa_model.proofs.Witnesses.{dec_lists, dec_cond}
use Rattle.cqa_model.proofs.Exactness.{taken-one, view-taken}

module _ (q : Query) where
  dec_has : (taken : List Placed) (F : ℕ) → Dec ((view_of q taken).has F)
  dec_has [] F = dec_lt F (length q.atoms)
  dec_has (t ∷ ts) F = dec_both (dec_has ts F) (dec_not (ℕ_discrete F t.atom))

  -- the rows that an atom of a partial witness may have
  abbrev pick : {A : Type 0} → Dec A → List Value → List (List Value) → List (List Value)
  pick (yes a) x xs = x ∷ []
  pick (no f) x xs = xs

  abbrev places : List Placed → List (List (List Value)) → ℕ → List (List Value)
  places [] r F = rows_of q r F
  places (t ∷ ts) r F = pick (ℕ_discrete t.atom F) t.row (places ts r F)

  places-left : (taken : List Placed) (r : List (List (List Value))) (F : ℕ) → (view_of q taken).has F → (x : List Value) → (Contains (places taken r F) x → Contains (rows_of q r F) x) × (Contains (rows_of q r F) x → Contains (places taken r F) x)
  places-left [] r F h x = ((λ m. m), (λ m. m))
  places-left (t ∷ ts) r F h x = go (ℕ_discrete t.atom F) (places-left ts r F h.0 x)
    where
      go : (d : Dec (t.atom ≡ F)) → (Contains (places ts r F) x → Contains (rows_of q r F) x) × (Contains (rows_of q r F) x → Contains (places ts r F) x) →
          (Contains (pick d t.row (places ts r F)) x → Contains (rows_of q r F) x) × (Contains (rows_of q r F) x → Contains (pick d t.row (places ts r F)) x)
      go (yes e) p = absurd (h.1 (sym e))
      go (no ne) p = p

  places-taken : (row : List Value) (taken : List Placed) → AllFit q row taken → (r : List (List (List Value))) (t : Placed) → Contains taken t → (x : List Value) →
      (Contains (places taken r t.atom) x → x ≡ t.row) × (x ≡ t.row → Contains (places taken r t.atom) x)
  places-taken row [] all r t m x = absurd (mem-nil t m)
  places-taken row (u ∷ us) all r t m x = go (ℕ_discrete u.atom t.atom) (mem-cases t u us m) (λ n. places-taken row us all.2 r t n x)
    where
      here : u ≡ t → (Contains (u.row ∷ []) x → x ≡ t.row) × (x ≡ t.row → Contains (u.row ∷ []) x)
      here e = (
        (λ n. elim (mem-cases x u.row [] n) [ inl f ↦ sym f ∙ ap (λ z. z.row) e | inr k ↦ absurd (mem-nil x k) ]),
        (λ f. mem-eq u.row x (u.row ∷ []) (ap (λ z. z.row) e ∙ sym f) (mem-head u.row [])),
      )

      go : (d : Dec (u.atom ≡ t.atom)) → (u ≡ t) ⊎ Contains us t → (Contains us t → (Contains (places us r t.atom) x → x ≡ t.row) × (x ≡ t.row → Contains (places us r t.atom) x)) →
          (Contains (pick d u.row (places us r t.atom)) x → x ≡ t.row) × (x ≡ t.row → Contains (pick d u.row (places us r t.atom)) x)
      go (yes e) c next = here (taken-one q row (u ∷ us) all u t (mem-head u us) m e)
      go (no ne) (inl e) next = absurd (ne (ap (λ z. z.atom) e))
      go (no ne) (inr n) next = next n

  -- whether a repair holds a witness of a partial query with a key
  pub dec_key : (row : List Value) (taken : List Placed) → AllFit q row taken → (r : List (List (List Value))) (F : ℕ) (x : List Value) →
      Dec ((w : List (List Value)) × IsPartial q row taken r w × SharesKey (atom_key q F) x (row_at w F))
  dec_key row taken all r F x = dec_by (λ h. (h.0, into h.0 h.1 h.2 h.3.0 h.3.1.0, h.3.1.1)) (λ h. (h.0, h.1.size, from h.0 h.1, (h.1.holds, (h.1.answers, h.2))))
      (dec_lists [] (length q.atoms) (λ G. places taken r G) (λ w. ((k : Cond) → Contains q.conds k → CondHolds w k) × ((map (value w) q.answer ≡ row) × SharesKey (atom_key q F) x (row_at w F)))
      (λ w. dec_both (dec_each (λ k. CondHolds w k) (dec_cond w) q.conds) (dec_both (List-discrete value_discrete (map (value w) q.answer) row) (dec_shares (atom_key q F) x (row_at w F)))))
    where
      into : (w : List (List Value)) → length w ≡ length q.atoms → ((G : ℕ) → G < length q.atoms → Contains (places taken r G) (get_or w G [])) → ((k : Cond) → Contains q.conds k → CondHolds w k) → map (value w) q.answer ≡ row → IsPartial q row taken r w
      into w size at holds answers = record {
        size = size;
        holds = holds;
        answers = answers;
        keeps = λ G has. (places-left taken r G has (row_at w G)).0 (at G (view-in_range q taken G has));
        extends = λ t m. (places-taken row taken all r t m (row_at w t.atom)).0 (at t.atom (taken-in_range q row taken all t m));
      }

      from : (w : List (List Value)) → IsPartial q row taken r w → (G : ℕ) → G < length q.atoms → Contains (places taken r G) (get_or w G [])
      from w h G l = go (dec_has taken G)
        where
          go : Dec ((view_of q taken).has G) → Contains (places taken r G) (get_or w G [])
          go (yes has) = (places-left taken r G has (row_at w G)).1 (h.keeps G has)
          go (no f) =
              let t = view-taken q row taken G l f in
              subst (λ z. Contains (places taken r z) (row_at w z)) t.2 ((places-taken row taken all r t.0 t.1 (row_at w t.0.atom)).1 (h.extends t.0 t.1))

module _ (q : Query) (keys : List (List ℕ)) (tables : List (List (List Value))) (fits : FitsTables q keys tables) (row : List Value)
    (taken : List Placed) (all : AllFit q row taken) (F : ℕ) (hF : (view_of q taken).has F) where
  module _ (free : IsUnattacked q (view_of q taken) F) where
    abbrev Lacks : List (List (List Value)) → List Value → Type 0
    Lacks r x = LacksKey q keys tables fits row taken all F hF free r x

    -- from a repair that lacks a key, one takes the key away from another
    module _ (s : List (List (List Value))) (hs : IsRepairBy keys tables s) (x : List Value) (lacks : Lacks s x) where
      abbrev Towards : List Placed → List (List (List Value)) → Type 0
      Towards U r = IsTowards q keys tables fits row taken all F hF free s hs x lacks U r

      abbrev Nearer : List Placed → List (List (List Value)) → Type 0
      Nearer U r = IsNearer q keys tables fits row taken all F hF free s hs x lacks U r

      abbrev Without : List (List (List Value)) → Type 0
      Without r = IsWithout q keys tables fits row taken all F hF free s hs x lacks r

      -- nothing to do, or one row to exchange
      step : (U : List Placed) (r : List (List (List Value))) → IsRepairBy keys tables r → Towards U r → Without r ⊎ Nearer U r
      step U r hr towards = go (dec_key q row taken all r F x)
        where
          differs : (S : List (List Value)) → IsPartial q row taken r S → SharesKey (atom_key q F) x (row_at S F) →
              ((K : ℕ) → K < length q.atoms → (view_of q taken).has K → Contains (rows_of q s K) (row_at S K)) ⊎ ((K : ℕ) × (K < length q.atoms) × (((view_of q taken).has K → Contains (rows_of q s K) (row_at S K)) → ⊥)) → Without r ⊎ Nearer U r
          differs S hS sh (inl h) = absurd (lacks S (record { size = hS.size; holds = hS.holds; answers = hS.answers; extends = hS.extends; keeps = λ K hK. h K (view-in_range q taken K hK) hK }) sh)
          differs S hS sh (inr (K, lK, f)) = has (dec_has q taken K)
            where
              has : Dec ((view_of q taken).has K) → Without r ⊎ Nearer U r
              has (yes hK) = inr (nearer q keys tables fits row taken all F hF free s hs x lacks U r hr towards S hS K hK (λ m. f (λ k. m)))
              has (no g) = absurd (f (λ k. absurd (g k)))

          go : Dec ((w : List (List Value)) × IsPartial q row taken r w × SharesKey (atom_key q F) x (row_at w F)) → Without r ⊎ Nearer U r
          go (no f) = inl (r, hr, below-self q keys tables fits row taken all F hF free r, λ w hw sh. f (w, hw, sh))
          go (yes (S, hS, sh)) = differs S hS sh (find_below (λ K. (view_of q taken).has K → Contains (rows_of q s K) (row_at S K)) (λ K. dec_if (dec_has q taken K) (dec_mem (rows_of q s K) (row_at S K))) (length q.atoms))

      take_away : (n : ℕ) (U : List Placed) → length U ≤ n → (r : List (List (List Value))) → IsRepairBy keys tables r → Towards U r → Without r
      take_away zero U le r hr towards = elim (step U r hr towards) [
        | inl g ↦ g
        | inr h ↦ absurd (let e : length U ≡ suc (length h.0) = h.2 in omega arith)
      ]
      take_away (suc n) U le r hr towards = elim (step U r hr towards) [
        | inl g ↦ g
        | inr h ↦
            let e : length U ≡ suc (length h.0) = h.2 in
            let g : Without h.1 = take_away n h.0 (omega arith) h.1 h.3 h.4 in
            (g.0, g.1, below-trans q keys tables fits row taken all F hF free r h.1 g.0 g.2 h.5, g.3)
      ]

      pub without_it : (r : List (List (List Value))) → IsRepairBy keys tables r → Without r
      without_it r hr =
          let U : List Placed = kept_rows q keys tables fits row taken all F hF free s hs x lacks (length q.atoms) in
          take_away (length U) U (omega arith) r hr (λ K hK y m. inl (kept_rows-all q keys tables fits row taken all F hF free s hs x lacks (length q.atoms) K (view-in_range q taken K hK) y m))

    -- where each of these keys is missing in a repair, one repair lacks them all
    pub without_all : (r : List (List (List Value))) → IsRepairBy keys tables r → (xs : List (List Value)) →
        ((x : List Value) → Contains xs x → (s : List (List (List Value))) × IsRepairBy keys tables s × Lacks s x) →
        (z : List (List (List Value))) × IsRepairBy keys tables z × ((x : List Value) → Contains xs x → Lacks z x)
    without_all r hr [] h = (r, hr, λ x m. absurd (mem-nil x m))
    without_all r hr (x ∷ xs) h =
        let g = without_all r hr xs (λ y m. h y (mem-tail y x xs m)) in
        let p = h x (mem-head x xs) in
        let o = without_it p.0 p.1 x p.2 g.0 g.1 in (
          o.0,
          o.1,
          λ y m. elim (mem-cases y x xs m) [
            | inl e ↦ subst (λ z. Lacks o.0 z) e o.3
            | inr n ↦ lacks-below q keys tables fits row taken all F hF free g.0 o.0 y o.2 (g.2 y n)
          ],
        )

  -- r with y in its block, and what its witnesses with the key are
  pub with_row : (r : List (List (List Value))) → IsRepairBy keys tables r → (x y : List Value) → Contains (rows_of q tables F) y → SharesKey (atom_key q F) x y →
      (s : List (List (List Value))) × IsRepairBy keys tables s × ((w : List (List Value)) → IsPartial q row taken s w → SharesKey (atom_key q F) x (row_at w F) → IsPartial q row (placed F y ∷ taken) r w)
  with_row r hr x y my xy = go (row_of_block q keys tables fits row taken all r hr F lF y my)
    where
      lF : F < length q.atoms
      lF = view-in_range q taken F hF

      go : (z : List Value) × (Contains (rows_of q r F) z × SharesKey (atom_key q F) y z) →
          (s : List (List (List Value))) × IsRepairBy keys tables s × ((w : List (List Value)) → IsPartial q row taken s w → SharesKey (atom_key q F) x (row_at w F) → IsPartial q row (placed F y ∷ taken) r w)
      go (z, (mz, yz)) = (s, hs, at)
        where
          zy : SharesKey (atom_key q F) z y
          zy = shares-sym (atom_key q F) y z yz

          s : List (List (List Value))
          s = replaced q keys tables fits row taken all r hr F lF z y mz my zy

          hs : IsRepairBy keys tables s
          hs = replaced-repair q keys tables fits row taken all r hr F lF z y mz my zy

          at : (w : List (List Value)) → IsPartial q row taken s w → SharesKey (atom_key q F) x (row_at w F) → IsPartial q row (placed F y ∷ taken) r w
          at w h xw = record {
            size = h.size;
            holds = h.holds;
            answers = h.answers;
            keeps = λ K p. subst (λ t. Contains t (row_at w K)) (replaced-elsewhere q keys tables fits row taken all r hr F lF z y mz my zy K (view-in_range q taken K p.0) p.1) (h.keeps K p.0);
            extends = λ t m. elim (mem-cases t (placed F y) taken m) [ inl e ↦ subst (λ u. row_at w u.atom ≡ u.row) e same | inr n ↦ h.extends t n ];
          }
            where
              same : row_at w F ≡ y
              same = one_of_atom q keys tables fits s hs F lF (row_at w F) y (h.keeps F hF)
                  (replaced-into q keys tables fits row taken all r hr F lF z y mz my zy y my (inl refl))
                  (shares-trans (atom_key q F) (row_at w F) x y (shares-sym (atom_key q F) x (row_at w F) xw) xy)
