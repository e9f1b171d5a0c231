-- Cycles with a strong attack may be begun anywhere, and cycles of a graph are those of its query.
use Rattle.std.proofs.Common.{◌≡◌, ℕ, ◌↔◌, ◌⊎◌, inl, inr, List, [], ◌∷◌, refl, sym, subst}
use Rattle.cqa_model.specs.declared.query.Query.{Query}
use Rattle.cqa_model.specs.Variables.{View}
use Rattle.cqa_model.specs.Graph.{Attacks as IsAttack, IsWeak, IsWalk, HasStrongStep, IsCyclic, IsStronglyCyclic}
use Rattle.attack_graph.specs.declared.graph.Attacks.{Attacks}
use Rattle.attack_graph.specs.Attacking.{HasAttack, HasWeakAttack, AreAttacks}
use Rattle.complexity_class.specs.declared.class.Class.{Class}
use Rattle.complexity_class.specs.declared.class.Class.TheVariants.{FirstOrder, Polynomial, CoNp}
use Rattle.query_class.specs.Cycles.{IsClass, IsClassOf, Reaches, IsStrong}

-- relations that agree, the weak ones where there is an attack, have the same cycles
module _ (attacks1 attacks2 weak1 weak2 : ℕ → ℕ → Type 0) (same : (F G : ℕ) → attacks1 F G ↔ attacks2 F G) (same_weak : (F G : ℕ) → attacks1 F G → weak1 F G ↔ weak2 F G) where
  walk-map : (F : ℕ) (Hs : List ℕ) (G : ℕ) → IsWalk attacks1 F Hs G → IsWalk attacks2 F Hs G
  walk-map F [] G w = (same F G).0 w
  walk-map F (H ∷ Hs) G w = ((same F H).0 w.0, walk-map H Hs G w.1)

  step-map : (F : ℕ) (Hs : List ℕ) (G : ℕ) → IsWalk attacks1 F Hs G → HasStrongStep weak1 F Hs G → HasStrongStep weak2 F Hs G
  step-map F [] G w s = λ k. s ((same_weak F G w).1 k)
  step-map F (H ∷ Hs) G w (inl s) = inl (λ k. s ((same_weak F H w.0).1 k))
  step-map F (H ∷ Hs) G w (inr s) = inr (step-map H Hs G w.1 s)

  cycle-map : IsCyclic attacks1 → IsCyclic attacks2
  cycle-map (F, Hs, w) = (F, Hs, walk-map F Hs F w)

  strong-map : IsStronglyCyclic attacks1 weak1 → IsStronglyCyclic attacks2 weak2
  strong-map (F, Hs, w, s) = (F, Hs, walk-map F Hs F w, step-map F Hs F w s)

module _ (a : Attacks) where
  walk-join : (F : ℕ) (Hs : List ℕ) (K : ℕ) (Is : List ℕ) (G : ℕ) → IsWalk (HasAttack a) F Hs K → IsWalk (HasAttack a) K Is G → Reaches a F G
  walk-join F [] K Is G r s = (K ∷ Is, (r, s))
  walk-join F (H ∷ Hs) K Is G r s = let m = walk-join H Hs K Is G r.1 s in (H ∷ m.0, (r.0, m.1))

  -- none or more attacks lead from F to G
  MayReach : ℕ → ℕ → Type 0
  MayReach F G = (F ≡ G) ⊎ Reaches a F G

  may-join : (F K G : ℕ) → MayReach F K → MayReach K G → MayReach F G
  unfolding MayReach
  may-join F K G (inl e) m = subst (λ z. MayReach z G) (sym e) m
  may-join F K G (inr r) (inl e) = inr (subst (λ z. Reaches a F z) e r)
  may-join F K G (inr r) (inr s) = inr (walk-join F r.0 K s.0 G r.1 s.1)

  -- a strong attack on the way, what leads to it, and what it leads to
  strong-step : (F : ℕ) (Hs : List ℕ) (G : ℕ) → IsWalk (HasAttack a) F Hs G → HasStrongStep (HasWeakAttack a) F Hs G → (A : ℕ) × (B : ℕ) × IsStrong a A B × MayReach F A × MayReach B G
  unfolding MayReach
  strong-step F [] G r s = (F, G, (r, s), inl refl, inl refl)
  strong-step F (H ∷ Hs) G r (inl s) = (F, H, (r.0, s), inl refl, inr (Hs, r.1))
  strong-step F (H ∷ Hs) G r (inr s) = let m = strong-step H Hs G r.1 s in (m.0, m.1, m.2, may-join F H m.0 (inr ([], r.0)) m.3, m.4)

  -- a strong cycle begins with a strong attack, from some atom of it on
  pub strong-first : IsStronglyCyclic (HasAttack a) (HasWeakAttack a) → (G : ℕ) × (F : ℕ) × IsStrong a F G × Reaches a G F
  unfolding MayReach
  strong-first (F, Hs, r, s) = let m = strong-step F Hs F r s in (m.1, m.0, m.2, go m.0 m.1 m.2 (may-join m.1 F m.0 m.4 m.3))
    where
      go : (A B : ℕ) → IsStrong a A B → MayReach B A → Reaches a B A
      go A B s (inl e) = ([], subst (λ z. HasAttack a z A) (sym e) (subst (λ z. HasAttack a A z) e s.0))
      go A B s (inr r) = r

  pub first-strong : (G F : ℕ) → IsStrong a F G → Reaches a G F → IsStronglyCyclic (HasAttack a) (HasWeakAttack a)
  first-strong G F s r = (F, G ∷ r.0, (s.0, r.1), inl s.1)

  module _ (q : Query) (view : View) (are : AreAttacks q view a) where
    into : (F G : ℕ) → HasAttack a F G ↔ IsAttack q view F G
    into F G = are.by F G

    from : (F G : ℕ) → IsAttack q view F G ↔ HasAttack a F G
    from F G = ((are.by F G).1, (are.by F G).0)

    into-weak : (F G : ℕ) → HasAttack a F G → HasWeakAttack a F G ↔ IsWeak q view F G
    into-weak F G h = are.weak F G ((are.by F G).0 h)

    from-weak : (F G : ℕ) → IsAttack q view F G → IsWeak q view F G ↔ HasWeakAttack a F G
    from-weak F G h = ((are.weak F G h).1, (are.weak F G h).0)

    pub class-of_query : (k : Class) → IsClassOf a k → IsClass q view k
    class-of_query FirstOrder h = λ c. h (cycle-map (IsAttack q view) (HasAttack a) (IsWeak q view) (HasWeakAttack a) from from-weak c)
    class-of_query Polynomial h = (
      cycle-map (HasAttack a) (IsAttack q view) (HasWeakAttack a) (IsWeak q view) into into-weak h.0,
      λ s. h.1 (strong-map (IsAttack q view) (HasAttack a) (IsWeak q view) (HasWeakAttack a) from from-weak s),
    )
    class-of_query CoNp h = strong-map (HasAttack a) (IsAttack q view) (HasWeakAttack a) (IsWeak q view) into into-weak h
