-- Views that are the same have the same cycles, the same elimination orders and the same plans.
use Rattle.std.proofs.Common.{ℕ, inl, inr, List, [], ◌∷◌}
use Rattle.cqa_model.specs.declared.query.Query.{Query}
use Rattle.cqa_model.specs.Variables.{View, after}
use Rattle.cqa_model.specs.Graph.{Attacks, IsWalk, HasCycle}
use Rattle.cqa_model.specs.Plan.{IsUnattacked, IsElimination, IsPlan}
use Rattle.key_closure.specs.Members.{AreSame}
use Rattle.attack_graph.proofs.Sameness.{same-sym, same-var, same-attacks}

module _ (q : Query) where
  same-walk : (a b : View) → AreSame a b → (F : ℕ) (Hs : List ℕ) (G : ℕ) → IsWalk (Attacks q a) F Hs G → IsWalk (Attacks q b) F Hs G
  same-walk a b s F [] G w = same-attacks q a b s F G w
  same-walk a b s F (H ∷ Hs) G w = (same-attacks q a b s F H w.0, same-walk a b s H Hs G w.1)

  pub same-cycle : (a b : View) → AreSame a b → HasCycle q a → HasCycle q b
  same-cycle a b s (F, Hs, w) = (F, Hs, same-walk a b s F Hs F w)

  same-after : (a b : View) → AreSame a b → (F : ℕ) → AreSame (after q a F) (after q b F)
  same-after a b s F = record {
    has = λ G. ((λ h. ((s.has G).0 h.0, h.1)), (λ h. ((s.has G).1 h.0, h.1)));
    fixed = λ c. ((λ h. elim h [ inl f ↦ inl ((s.fixed c).0 f) | inr v ↦ inr (same-var q a b s F c v) ]), (λ h. elim h [ inl f ↦ inl ((s.fixed c).1 f) | inr v ↦ inr (same-var q b a (same-sym a b s) F c v) ]));
  }

  same-free : (a b : View) → AreSame a b → (F : ℕ) → IsUnattacked q a F → IsUnattacked q b F
  same-free a b s F free G m = free G (same-attacks q b a (same-sym a b s) G F m)

  pub same-elimination : (a b : View) → AreSame a b → (p : List ℕ) → IsElimination q a p → IsElimination q b p
  same-elimination a b s [] h = λ F m. h F ((s.has F).1 m)
  same-elimination a b s (F ∷ p) h = ((s.has F).0 h.0, same-free a b s F h.1, same-elimination (after q a F) (after q b F) (same-after a b s F) p h.2)

  pub same-plan : (a b : View) → AreSame a b → (p : List ℕ) → IsPlan q a p → IsPlan q b p
  same-plan a b s [] h = λ F m. h F ((s.has F).1 m)
  same-plan a b s (F ∷ p) h = (
    (s.has F).0 h.0,
    same-free a b s F h.1,
    (λ G m l u. h.2 G ((s.has G).1 m) l (same-free b a (same-sym a b s) G u)),
    same-plan (after q a F) (after q b F) (same-after a b s F) p h.3,
  )
