-- Views that are the same have the same attacks.
use Rattle.std.proofs.Common.{ℕ, inl, inr, List, [], ◌∷◌}
use Rattle.cqa_model.specs.declared.query.ColRef.{ColRef}
use Rattle.cqa_model.specs.declared.query.Query.{Query}
use Rattle.cqa_model.specs.Variables.{View as Rest, IsFree, IsVar, IsKeyVar}
use Rattle.cqa_model.specs.Closures.{IsDerivation, CountsFor, InPlus}
use Rattle.cqa_model.specs.Graph.{IsSequence, Attacks, IsWeak}
use Rattle.key_closure.specs.Members.{AreSame}
use Rattle.attack_graph.specs.declared.graph.Attacks.{Attacks as Graph}
use Rattle.attack_graph.specs.Attacking.{AreAttacks}

pub same-sym : (a b : Rest) → AreSame a b → AreSame b a
same-sym a b s = record { has = λ F. ((s.has F).1, (s.has F).0); fixed = λ c. ((s.fixed c).1, (s.fixed c).0) }

module _ (q : Query) where
  same-free : (a b : Rest) → AreSame a b → (v : ColRef) → IsFree q a v → IsFree q b v
  same-free a b s v f = (f.0, λ h. f.1 ((s.fixed v).1 h))

  pub same-var : (a b : Rest) → AreSame a b → (F : ℕ) (v : ColRef) → IsVar q a F v → IsVar q b F v
  same-var a b s F v h = (same-free a b s v h.0, h.1)

  same-key : (a b : Rest) → AreSame a b → (F : ℕ) (v : ColRef) → IsKeyVar q a F v → IsKeyVar q b F v
  same-key a b s F v h = (same-free a b s v h.0, h.1)

  same-derivation : (a b : Rest) → AreSame a b → (F : ℕ) (vs : List ColRef) → IsDerivation q a (CountsFor q a F) (IsKeyVar q a F) vs → IsDerivation q b (CountsFor q b F) (IsKeyVar q b F) vs
  same-derivation a b s F [] d = tt
  same-derivation a b s F (v ∷ vs) d = (
    elim d.0 [
      | inl k ↦ inl (same-key a b s F v k)
      | inr h ↦ inr (h.0, ((s.has h.0).0 h.1.0, h.1.1), same-var a b s h.0 v h.2, λ u k. h.3 u (same-key b a (same-sym a b s) h.0 u k))
    ],
    same-derivation a b s F vs d.1,
  )

  same-plus : (a b : Rest) → AreSame a b → (F : ℕ) (v : ColRef) → InPlus q a F v → InPlus q b F v
  same-plus a b s F v c = (c.0, same-derivation a b s F c.0 c.1, c.2)

  same-sequence : (a b : Rest) → AreSame a b → (F : ℕ) (v : ColRef) (us : List ColRef) → IsSequence q a F v us → IsSequence q b F v us
  same-sequence a b s F v [] h = ((λ p. h.0 (same-plus b a (same-sym a b s) F v p)), same-var a b s F v h.1)
  same-sequence a b s F v (u ∷ us) h = (
    (λ p. h.0 (same-plus b a (same-sym a b s) F v p)),
    (h.1.0, (s.has h.1.0).0 h.1.1, same-var a b s h.1.0 u h.1.2, same-var a b s h.1.0 v h.1.3),
    same-sequence a b s F u us h.2,
  )

  pub same-attacks : (a b : Rest) → AreSame a b → (F G : ℕ) → Attacks q a F G → Attacks q b F G
  same-attacks a b s F G h = ((s.has F).0 h.0, (s.has G).0 h.1, h.2, (h.3.0, (h.3.1.0, same-sequence a b s F h.3.0 h.3.1.0 h.3.1.1), same-var a b s G h.3.0 h.3.2))

  same-chain : (a b : Rest) → AreSame a b → (F : ℕ) (vs : List ColRef) → IsDerivation q a a.has (IsKeyVar q a F) vs → IsDerivation q b b.has (IsKeyVar q b F) vs
  same-chain a b s F [] d = tt
  same-chain a b s F (v ∷ vs) d = (
    elim d.0 [
      | inl k ↦ inl (same-key a b s F v k)
      | inr h ↦ inr (h.0, (s.has h.0).0 h.1, same-var a b s h.0 v h.2, λ u k. h.3 u (same-key b a (same-sym a b s) h.0 u k))
    ],
    same-chain a b s F vs d.1,
  )

  pub same-weak : (a b : Rest) → AreSame a b → (F G : ℕ) → IsWeak q a F G → IsWeak q b F G
  same-weak a b s F G w v k = let c = w v (same-key b a (same-sym a b s) G v k) in (c.0, same-chain a b s F c.0 c.1, c.2)

  pub same-graph : (a b : Rest) → AreSame a b → (g : Graph) → AreAttacks q b g → AreAttacks q a g
  same-graph a b s g h = record {
    by = λ F G. ((λ p. same-attacks b a (same-sym a b s) F G ((h.by F G).0 p)), (λ k. (h.by F G).1 (same-attacks a b s F G k)));
    weak = λ F G k. let n = h.weak F G (same-attacks a b s F G k) in ((λ p. same-weak b a (same-sym a b s) F G (n.0 p)), (λ p. n.1 (same-weak a b s F G p)));
  }
