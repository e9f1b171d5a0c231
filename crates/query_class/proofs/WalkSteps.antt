-- Steps of the code that walks along attacks.
use Rattle.std.proofs.Common.{◌≡◌, ℕ, ◌<◌, ◌≢◌, ◌↔◌, ◌⊎◌, inl, inr, List, [], ◌∷◌, subst}
use native.Mathlib.Decide.{ℕ_discrete}
use Rattle.cqa_model.specs.Graph.{IsWalk}
use Rattle.key_closure.specs.declared.atom_set.AtomSet.{AtomSet}
use Rattle.key_closure.specs.Sets.{HasAtom}
use Rattle.attack_graph.specs.declared.graph.Attacks.{Attacks}
use Rattle.attack_graph.specs.Attacking.{HasAttack}
use Rattle.query_class.specs.Cycles.{Reaches}

-- the atoms reached so far: each of the twelve waits, or all that it attacks are in the set
pub record Walked (a : Attacks) (from : ℕ) (set waiting : AtomSet) : Type 0 where
  pub sound : (G : ℕ) → HasAtom set G → Reaches a from G
  pub first : (G : ℕ) → HasAttack a from G → HasAtom set G
  pub fired : (K : ℕ) → K < 12 → HasAtom waiting K ⊎ ((G : ℕ) → HasAttack a K G → HasAtom set G)

module _ (a : Attacks) where
  walk-more : (F : ℕ) (Hs : List ℕ) (K G : ℕ) → IsWalk (HasAttack a) F Hs K → HasAttack a K G → Reaches a F G
  walk-more F [] K G r h = (K ∷ [], (r, h))
  walk-more F (H ∷ Hs) K G r h = let m = walk-more H Hs K G r.1 h in (H ∷ m.0, (r.0, m.1))

  module _ (from : ℕ) where
    pub walked-start : (set all : AtomSet) → ((G : ℕ) → HasAtom set G ↔ HasAttack a from G) → ((K : ℕ) → HasAtom all K ↔ (K < 12)) → Walked a from set all
    walked-start set all hs ha = record {
      sound = λ G m. ([], (hs G).0 m);
      first = λ G h. (hs G).1 h;
      fired = λ K l. inl ((ha K).1 l);
    }

    pub walked-more : (set waiting : AtomSet) (K : ℕ) (row new rest : AtomSet) → Walked a from set waiting → HasAtom set K → ((G : ℕ) → HasAtom row G ↔ HasAttack a K G) →
        ((G : ℕ) → HasAtom new G ↔ (HasAtom set G ⊎ HasAtom row G)) → ((L : ℕ) → HasAtom rest L ↔ (HasAtom waiting L × (L ≢ K))) → Walked a from new rest
    walked-more set waiting K row new rest w inK hr hn ht = record {
      sound = λ G m. elim ((hn G).0 m) [ inl o ↦ w.sound G o | inr r ↦ let s = w.sound K inK in walk-more from s.0 K G s.1 ((hr G).0 r) ];
      first = λ G h. (hn G).1 (inl (w.first G h));
      fired = λ L l. go L (ℕ_discrete L K) (w.fired L l);
    }
      where
        go : (L : ℕ) → Dec (L ≡ K) → HasAtom waiting L ⊎ ((G : ℕ) → HasAttack a L G → HasAtom set G) → HasAtom rest L ⊎ ((G : ℕ) → HasAttack a L G → HasAtom new G)
        go L (yes e) f = inr (λ G h. (hn G).1 (inr ((hr G).1 (subst (λ z. HasAttack a z G) e h))))
        go L (no n) (inl m) = inl ((ht L).1 (m, n))
        go L (no n) (inr f) = inr (λ G h. (hn G).1 (inl (f G h)))

    pub walked-end : (set waiting : AtomSet) → Walked a from set waiting → ((K : ℕ) → HasAtom set K → HasAtom waiting K → ⊥) →
        (G : ℕ) → HasAtom set G ↔ Reaches a from G
    walked-end set waiting w none G = (w.sound G, λ r. arrive from r.0 G r.1 (λ H h. w.first H h))
      where
        arrive : (F : ℕ) (Hs : List ℕ) (G : ℕ) → IsWalk (HasAttack a) F Hs G → ((H : ℕ) → HasAttack a F H → HasAtom set H) → HasAtom set G
        arrive F [] G r next = next G r
        arrive F (H ∷ Hs) G r next = arrive H Hs G r.1 (λ I h. elim (w.fired H (a.small H I h).0) [ inl m ↦ absurd (none H (next H r.0) m) | inr f ↦ f I h ])

-- an atom that leads anywhere is one of the twelve
pub reach-small : (a : Attacks) (F G : ℕ) → Reaches a F G → F < 12
reach-small a F G ([], r) = (a.small F G r).0
reach-small a F G (H ∷ Hs, r) = (a.small F H r.0).0
