-- A plan exists exactly where the attacks have no cycle.
use Rattle.std.proofs.Common.{◌≡◌, ℕ, zero, suc, ◌<◌, ◌≤◌, ◌≢◌, ◌⊎◌, inl, inr, List, [], ◌∷◌, length, refl, sym, subst, arith, Contains}
use Rattle.std.proofs.lemmas.List.Elements.{All-contains}
use native.Mathlib.Decide.{ℕ_discrete, dec_lt}
use Rattle.cqa_model.specs.declared.query.ColRef.{ColRef}
use Rattle.cqa_model.specs.declared.query.Query.{Query}
use Rattle.cqa_model.specs.Query.{atom_at, atom_key}
use Rattle.cqa_model.specs.Variables.{View, whole, after}
use Rattle.cqa_model.specs.Graph.{Attacks, IsWalk, HasCycle}
use Rattle.cqa_model.specs.Plan.{IsUnattacked, IsElimination, IsPlan}
use Rattle.cqa_model.specs.Laws.{PlanOrCycle}
use Rattle.cqa_model.proofs.Values.{dec_not}
use Rattle.cqa_model.proofs.Reification.{remove}
use Rattle.cqa_model.proofs.Attacks.{IsClosed, after-closed, rest, kept}
use Rattle.cqa_model.proofs.Interface.{dec_fixed_after}
use Rattle.cqa_model.proofs.AttackDecisions.{attacked}
use Rattle.cqa_model.proofs.Classic.{dec_both}
pub use Rattle.cqa_model.proofs.AttackDecisions.{below, below-all}

module _ (q : Query) (view : View) where
  walk-start : (A : ℕ) (Hs : List ℕ) (B : ℕ) → IsWalk (Attacks q view) A Hs B → view.has A
  walk-start A [] B w = w.0
  walk-start A (H ∷ Hs) B w = w.0.0

  walk-end : (A : ℕ) (Hs : List ℕ) (B : ℕ) → IsWalk (Attacks q view) A Hs B → (C : ℕ) × Attacks q view C B
  walk-end A [] B w = (A, w)
  walk-end A (H ∷ Hs) B w = walk-end H Hs B w.1

  walk-append : (A : ℕ) (Hs : List ℕ) (B : ℕ) (Is : List ℕ) (C : ℕ) → IsWalk (Attacks q view) A Hs B → IsWalk (Attacks q view) B Is C → (Js : List ℕ) × IsWalk (Attacks q view) A Js C
  walk-append A [] B Is C v w = (B ∷ Is, (v, w))
  walk-append A (H ∷ Hs) B Is C v w = let r = walk-append H Hs B Is C v.1 w in (H ∷ r.0, (v.0, r.1))

module _ (q : Query) where
  cycle-before : (view : View) → IsClosed q view → (F : ℕ) (A : ℕ) (Hs : List ℕ) (B : ℕ) → IsWalk (Attacks q (after q view F)) A Hs B → IsWalk (Attacks q view) A Hs B
  cycle-before view closed F A [] B w = rest q view closed F A B w
  cycle-before view closed F A (H ∷ Hs) B w = (rest q view closed F A H w.0, cycle-before view closed F H Hs B w.1)

  pub has_cycle-before : (view : View) → IsClosed q view → (F : ℕ) → HasCycle q (after q view F) → HasCycle q view
  has_cycle-before view closed F (A, Hs, w) = (A, Hs, cycle-before view closed F A Hs A w)

  abbrev pub IsNarrow : View → Type 0
  IsNarrow view = (K : ℕ) → view.has K → (p : ℕ) → Contains (atom_key q K) p → p < (atom_at q K).width

  walk-after : (view : View) → IsClosed q view → IsNarrow view → (F : ℕ) → view.has F → IsUnattacked q view F → (A : ℕ) → A ≢ F → (Hs : List ℕ) (B : ℕ) → IsWalk (Attacks q view) A Hs B → IsWalk (Attacks q (after q view F)) A Hs B
  walk-after view closed narrow F hF free A ne [] B w = kept q view closed F narrow hF free A w.0 ne B (λ e. free A (subst (λ z. Attacks q view A z) e w)) w
  walk-after view closed narrow F hF free A ne (H ∷ Hs) B w =
      let ne_H : H ≢ F = λ e. free A (subst (λ z. Attacks q view A z) e w.0) in
      (kept q view closed F narrow hF free A w.0.0 ne H ne_H w.0, walk-after view closed narrow F hF free H ne_H Hs B w.1)

  -- a view with an elimination order has no cycle
  pub eliminated : (order : List ℕ) (view : View) → IsClosed q view → IsNarrow view → IsElimination q view order → HasCycle q view → ⊥
  eliminated [] view closed narrow none (A, Hs, w) = none A (walk-start q view A Hs A w)
  eliminated (F ∷ order) view closed narrow (hF, free, more) (A, Hs, w) =
      eliminated order (after q view F) (after-closed q view closed F) (λ K hK. narrow K hK.0) more
      (A, Hs, walk-after view closed narrow F hF free A (λ e. let z = walk-end q view A Hs A w in free z.0 (subst (λ y. Attacks q view z.0 y) e z.1)) Hs A w)

  -- where each atom that is left is attacked, the attackers come round
  module _ (view : View) (attacker : (F : ℕ) → view.has F → (G : ℕ) × Attacks q view G F) where
    -- from x one comes to each atom that is not in the list
    abbrev IsSeen : List ℕ → ℕ → Type 0
    IsSeen unseen x = (y : ℕ) → view.has y → Contains unseen y ⊎ ((x ≡ y) ⊎ ((Hs : List ℕ) × IsWalk (Attacks q view) x Hs y))

    come_round_step : (unseen : List ℕ) (x : ℕ) → view.has x → IsSeen unseen x →
        ((others : List ℕ) (G : ℕ) → length unseen ≡ suc (length others) → view.has G → IsSeen others G → HasCycle q view) → HasCycle q view
    come_round_step unseen x hx seen next = go (attacker x hx)
      where
        go : (G : ℕ) × Attacks q view G x → HasCycle q view
        go (G, a) = elim (seen G a.0) [
          | inl m ↦ far (remove unseen G m)
          | inr s ↦ elim s [
            | inl e ↦ absurd (a.2 (sym e))
            | inr w ↦ (G, x ∷ w.0, (a, w.1))
          ]
        ]
          where
            onwards : (y : ℕ) → (x ≡ y) ⊎ ((Hs : List ℕ) × IsWalk (Attacks q view) x Hs y) → (Hs : List ℕ) × IsWalk (Attacks q view) G Hs y
            onwards y (inl e) = ([], subst (λ z. Attacks q view G z) e a)
            onwards y (inr w) = (x ∷ w.0, (a, w.1))

            far : (ys : List ℕ) × (length unseen ≡ suc (length ys)) × ((y : ℕ) → Contains unseen y → (G ≡ y) ⊎ Contains ys y) → HasCycle q view
            far (ys, l, h) = next ys G l a.0 (λ y hy. elim (seen y hy) [
              | inl m ↦ elim (h y m) [ inl e ↦ inr (inl e) | inr n ↦ inl n ]
              | inr s ↦ inr (inr (onwards y s))
            ])

    come_round : (n : ℕ) (unseen : List ℕ) → length unseen ≤ n → (x : ℕ) → view.has x → IsSeen unseen x → HasCycle q view
    come_round zero unseen le x hx seen = come_round_step unseen x hx seen (λ others G l hG s. absurd (omega arith))
    come_round (suc n) unseen le x hx seen = come_round_step unseen x hx seen (λ others G l hG s. come_round n others (omega arith) G hG s)

    -- where there is an atom, and each has an attacker, there is a cycle
    pub stuck : (atoms : List ℕ) → ((F : ℕ) → view.has F → Contains atoms F) → (x : ℕ) → view.has x → HasCycle q view
    stuck atoms all x hx = come_round (length atoms) atoms (omega arith) x hx (λ y hy. inl (all y hy))

-- the least number below n with a decided property, if there is one
least : (P : ℕ → Type 0) → ((k : ℕ) → Dec (P k)) → (n : ℕ) → ((k : ℕ) × (k < n) × P k × ((j : ℕ) → j < k → P j → ⊥)) ⊎ ((k : ℕ) → k < n → P k → ⊥)
least P d zero = inr (λ k l p. absurd (omega arith))
least P d (suc n) = go (least P d n) (d n)
  where
    go : ((k : ℕ) × (k < n) × P k × ((j : ℕ) → j < k → P j → ⊥)) ⊎ ((k : ℕ) → k < n → P k → ⊥) → Dec (P n) →
        ((k : ℕ) × (k < suc n) × P k × ((j : ℕ) → j < k → P j → ⊥)) ⊎ ((k : ℕ) → k < suc n → P k → ⊥)
    go (inl h) e = let l : h.0 < n = h.1 in inl (h.0, omega arith, h.2, h.3)
    go (inr none) (yes p) = inl (n, omega arith, p, none)
    go (inr none) (no np) = inr (λ k l p. elim (ℕ_discrete k n) [ yes e ↦ np (subst P e p) | no ne ↦ none k (omega arith) p ])

-- a view has a plan, or a cycle
module _ (q : Query) where
  abbrev pub HasPlanOrCycle : View → Type 0
  HasPlanOrCycle view = ((plan : List ℕ) × IsPlan q view plan) ⊎ HasCycle q view

  pub plan_or_cycle_of : (n : ℕ) (atoms : List ℕ) → length atoms ≤ n → (view : View) → IsClosed q view → ((F : ℕ) → view.has F → Contains atoms F) →
      ((K : ℕ) → view.has K → K < length q.atoms) → ((K : ℕ) → Dec (view.has K)) → ((v : ColRef) → Dec (view.fixed v)) → HasPlanOrCycle view
  plan_or_cycle_of zero atoms le view closed all within dec_has dec_fixed = inl ([], λ F hF. none (all F hF))
    where
      none : {F : ℕ} → Contains atoms F → ⊥
      none m = let l : m.0 < length atoms = m.1 in omega arith
  plan_or_cycle_of (suc n) atoms le view closed all within dec_has dec_fixed =
      go (least (λ F. view.has F × IsUnattacked q view F) (λ F. dec_both (dec_has F) (dec_unattacked F)) (length q.atoms))
      (λ g hg. let r = remove atoms g (all g hg) in let e : length atoms ≡ suc (length r.0) = r.1 in
      plan_or_cycle_of n r.0 (omega arith) (after q view g) (after-closed q view closed g)
      (λ F hF. elim (r.2 F (all F hF.0)) [ inl f ↦ absurd (hF.1 (sym f)) | inr m ↦ m ])
      (λ K hK. within K hK.0) (λ K. dec_both (dec_has K) (dec_not (ℕ_discrete K g))) (dec_fixed_after q view dec_fixed g))
    where
      attackers : (F : ℕ) → ((G : ℕ) × Attacks q view G F) ⊎ IsUnattacked q view F
      attackers = attacked q view closed within dec_has dec_fixed

      dec_unattacked : (F : ℕ) → Dec (IsUnattacked q view F)
      dec_unattacked F = elim (attackers F) [ inl a ↦ no (λ u. u a.0 a.1) | inr u ↦ yes u ]

      -- the first atom is taken
      taken : (g : ℕ) → view.has g → IsUnattacked q view g → ((G : ℕ) → G < g → (view.has G × IsUnattacked q view G) → ⊥) → HasPlanOrCycle (after q view g) → HasPlanOrCycle view
      taken g hg u first (inl p) = inl (g ∷ p.0, (hg, u, (λ G hG lG uG. first G lG (hG, uG)), p.1))
      taken g hg u first (inr c) = inr (has_cycle-before q view closed g c)

      -- where each atom is attacked, none is left or attacks come round
      blocked : ((F : ℕ) → F < length q.atoms → (view.has F × IsUnattacked q view F) → ⊥) →
          ((k : ℕ) × (k < length q.atoms) × view.has k × ((j : ℕ) → j < k → view.has j → ⊥)) ⊎ ((k : ℕ) → k < length q.atoms → view.has k → ⊥) → HasPlanOrCycle view
      blocked none (inl (x, l, hx, first)) =
          inr (stuck q view (λ F hF. elim (attackers F) [ inl a ↦ a | inr u ↦ absurd (none F (within F hF) (hF, u)) ]) atoms all x hx)
      blocked none (inr nothing_left) = inl ([], λ x hx. nothing_left x (within x hx) hx)

      go : ((F : ℕ) × (F < length q.atoms) × (view.has F × IsUnattacked q view F) × ((G : ℕ) → G < F → (view.has G × IsUnattacked q view G) → ⊥)) ⊎ ((F : ℕ) → F < length q.atoms → (view.has F × IsUnattacked q view F) → ⊥) →
          ((g : ℕ) → view.has g → HasPlanOrCycle (after q view g)) → HasPlanOrCycle view
      go (inl (g, l, u, first)) next = taken g u.0 u.1 first (next g u.0)
      go (inr none) next = blocked none (least (λ F. view.has F) dec_has (length q.atoms))

  -- the plan is unique
  pub one_plan : (view : View) (p o : List ℕ) → IsPlan q view p → IsPlan q view o → p ≡ o
  one_plan view [] [] hp ho = refl
  one_plan view [] (G ∷ o) hp ho = absurd (hp G ho.0)
  one_plan view (F ∷ p) [] hp ho = absurd (ho F hp.0)
  one_plan view (F ∷ p) (G ∷ o) hp ho = go (ℕ_discrete F G) (λ h. one_plan (after q view F) p o hp.3 h)
    where
      go : Dec (F ≡ G) → (IsPlan q (after q view F) o → p ≡ o) → F ∷ p ≡ G ∷ o
      go (yes e) next = let es : p ≡ o = next (subst (λ z. IsPlan q (after q view z) o) (sym e) ho.3) in cc
      go (no ne) next = absurd (grind (arith, hp.2 G ho.0, ho.2 F hp.0, hp.1, ho.1))

pub whole-narrow : (q : Query) → IsNarrow q (whole q)
whole-narrow q K hK p m = All-contains (λ p. p < (atom_at q K).width) (atom_key q K) p (q.kept.each K hK).key_in_range m

-- of a query
plan_or_cycle_in : (q : Query) → ((plan : List ℕ) × IsPlan q (whole q) plan) ⊎ HasCycle q (whole q)
plan_or_cycle_in q = plan_or_cycle_of q (length (below (length q.atoms))) (below (length q.atoms)) (omega arith) (whole q) (λ u v l f. f)
    (λ F hF. below-all (length q.atoms) F hF) (λ K hK. hK) (λ K. dec_lt K (length q.atoms)) (λ v. no (λ f. f))

pub plan_or_cycle : PlanOrCycle
plan_or_cycle = record {
  not_both = λ q order h c. eliminated q order (whole q) (λ u v l f. f) (whole-narrow q) h c;
  either = plan_or_cycle_in;
  some = λ q acyclic. elim (plan_or_cycle_in q) [ inl p ↦ p | inr c ↦ absurd (acyclic c) ];
  one = λ q plan other h o. one_plan q (whole q) plan other h o;
}
