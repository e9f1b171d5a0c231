-- Walks along a relation of finitely many numbers are decided, and so are cycles of which a step is strong.
use Rattle.std.proofs.Common.{◌≡◌, ◌<◌, ◌⊎◌, inl, inr, ℕ, zero, suc, List, [], ◌∷◌, refl, sym, ◌∙◌, subst, arith}
use native.Mathlib.Decide.{ℕ_discrete}
use Rattle.cqa_value.proofs.Words.{dec_both, dec_one_below}
use Rattle.cqa_model.specs.Graph.{IsWalk, HasStrongStep, IsStronglyCyclic}
use Rattle.cqa_model.proofs.Classic.{dec_or}
use Rattle.cqa_model.proofs.Values.{dec_by, dec_not}

module _ (R : ℕ → ℕ → Type 0) (d : (A B : ℕ) → Dec (R A B)) where
  -- a walk leads from A to B whose atoms between them are below a number
  abbrev Reaches : ℕ → ℕ → ℕ → Type 0
  Reaches zero A B = R A B
  Reaches (suc k) A B = Reaches k A B ⊎ (Reaches k A k × Reaches k k B)

  dec_reaches : (k A B : ℕ) → Dec (Reaches k A B)
  dec_reaches zero A B = d A B
  dec_reaches (suc k) A B = dec_or (dec_reaches k A B) (dec_both (dec_reaches k A k) (dec_reaches k k B))

  join : (A : ℕ) (Hs : List ℕ) (B : ℕ) (Is : List ℕ) (C : ℕ) → IsWalk R A Hs B → IsWalk R B Is C → (Js : List ℕ) × IsWalk R A Js C
  join A [] B Is C v w = (B ∷ Is, (v, w))
  join A (H ∷ Hs) B Is C v w = let r = join H Hs B Is C v.1 w in (H ∷ r.0, (v.0, r.1))

  walk_of : (k A B : ℕ) → Reaches k A B → (Hs : List ℕ) × IsWalk R A Hs B
  walk_of zero A B r = ([], r)
  walk_of (suc k) A B (inl r) = walk_of k A B r
  walk_of (suc k) A B (inr (r, s)) = let v = walk_of k A k r in let w = walk_of k k B s in join A v.0 k w.0 B v.1 w.1

  at_once : (k A B : ℕ) → R A B → Reaches k A B
  at_once zero A B r = r
  at_once (suc k) A B r = inl (at_once k A B r)

  ahead : (k A H B : ℕ) → R A H → H < k → Reaches k H B → Reaches k A B
  ahead zero A H B r l s = absurd (omega (arith, l))
  ahead (suc k) A H B r l s = go (ℕ_discrete H k) s (λ C m t. ahead k A H C r m t)
    where
      go : Dec (H ≡ k) → Reaches k H B ⊎ (Reaches k H k × Reaches k k B) → ((C : ℕ) → H < k → Reaches k H C → Reaches k A C) → Reaches k A B ⊎ (Reaches k A k × Reaches k k B)
      go (yes e) (inl t) more = inr (subst (λ z. Reaches k A z) e (at_once k A H r), subst (λ z. Reaches k z B) e t)
      go (yes e) (inr t) more = inr (subst (λ z. Reaches k A z) e (at_once k A H r), t.1)
      go (no f) (inl t) more = inl (more B (omega (arith, l, f)) t)
      go (no f) (inr t) more = inr (more k (omega (arith, l, f)) t.0, t.1)

  reaches_of : (n : ℕ) → ((A B : ℕ) → R A B → B < n) → (A : ℕ) (Hs : List ℕ) (B : ℕ) → IsWalk R A Hs B → Reaches n A B
  reaches_of n inside A [] B w = at_once n A B w
  reaches_of n inside A (H ∷ Hs) B w = ahead n A H B w.0 (inside A H w.0) (reaches_of n inside H Hs B w.1)

  module _ (W : ℕ → ℕ → Type 0) (dec_weak : (A B : ℕ) → R A B → Dec (W A B)) where
    abbrev IsStrong : ℕ → ℕ → Type 0
    IsStrong A B = R A B × (W A B → ⊥)

    dec_strong : (A B : ℕ) → Dec (IsStrong A B)
    dec_strong A B = go (d A B)
      where
        go : Dec (R A B) → Dec (IsStrong A B)
        go (no f) = no (λ s. f s.0)
        go (yes r) = dec_by (λ f. (r, f)) (λ s. s.1) (dec_not (dec_weak A B r))

    -- nowhere, or along a walk
    abbrev Comes : ℕ → ℕ → Type 0
    Comes A B = (A ≡ B) ⊎ ((Hs : List ℕ) × IsWalk R A Hs B)

    onwards : (A H B : ℕ) → R A H → Comes H B → (Hs : List ℕ) × IsWalk R A Hs B
    onwards A H B r (inl e) = ([], subst (R A) e r)
    onwards A H B r (inr w) = (H ∷ w.0, (r, w.1))

    strong_edge : (F : ℕ) (Hs : List ℕ) (G : ℕ) → IsWalk R F Hs G → HasStrongStep W F Hs G → (A : ℕ) × (B : ℕ) × (IsStrong A B × (Comes F A × Comes B G))
    strong_edge F [] G w s = (F, G, ((w, s), (inl refl, inl refl)))
    strong_edge F (H ∷ Hs) G w (inl s) = (F, H, ((w.0, s), (inl refl, inr (Hs, w.1))))
    strong_edge F (H ∷ Hs) G w (inr s) = let r = strong_edge H Hs G w.1 s in (r.0, r.1, (r.2.0, (inr (onwards F H r.0 w.0 r.2.1.0), r.2.1.1)))

    round : (A B F : ℕ) → ((C : ℕ) → R C C → ⊥) → IsStrong A B → Comes F A → Comes B F → (Hs : List ℕ) × IsWalk R B Hs A
    round A B F apart s (inl e) (inl f) = absurd (apart A (subst (R A) (f ∙ e) s.0))
    round A B F apart s (inl e) (inr v) = (v.0, subst (λ z. IsWalk R B v.0 z) e v.1)
    round A B F apart s (inr w) (inl f) = (w.0, subst (λ z. IsWalk R z w.0 A) (sym f) w.1)
    round A B F apart s (inr w) (inr v) = join B v.0 F w.0 A v.1 w.1

    pub dec_strongly_cyclic : (n : ℕ) → ((A B : ℕ) → R A B → A < n) → ((A B : ℕ) → R A B → B < n) → ((C : ℕ) → R C C → ⊥) → Dec (IsStronglyCyclic R W)
    dec_strongly_cyclic n below inside apart = dec_by from to
        (dec_one_below (λ A. (B : ℕ) × (B < n) × (IsStrong A B × Reaches n B A)) (λ A. dec_one_below (λ B. IsStrong A B × Reaches n B A) (λ B. dec_both (dec_strong A B) (dec_reaches n B A)) n) n)
      where
        from : (A : ℕ) × (A < n) × ((B : ℕ) × (B < n) × (IsStrong A B × Reaches n B A)) → IsStronglyCyclic R W
        from (A, l, (B, m, (s, r))) = let w = walk_of n B A r in (A, B ∷ w.0, (s.0, w.1), inl s.1)

        to : IsStronglyCyclic R W → (A : ℕ) × (A < n) × ((B : ℕ) × (B < n) × (IsStrong A B × Reaches n B A))
        to (F, Hs, w, s) =
            let e = strong_edge F Hs F w s in
            let back = round e.0 e.1 F apart e.2.0 e.2.1.0 e.2.1.1 in
            (e.0, below e.0 e.1 e.2.0.0, (e.1, inside e.0 e.1 e.2.0.0, (e.2.0, reaches_of n inside e.1 back.0 e.0 back.1)))
