-- Steps of the code that plans.
use Rattle.std.proofs.Common.{◌≡◌, ℕ, ◌+◌, ◌<◌, ◌≢◌, ◌↔◌, ◌⊎◌, inl, inr, List, [], ◌∷◌, ◌++◌, subst, arith, append_assoc, append-nil, length}
use native.Mathlib.Decide.{ℕ_discrete}
use Rattle.cqa_model.specs.declared.query.Query.{Query}
use Rattle.cqa_model.specs.Variables.{whole, after}
use Rattle.cqa_model.specs.Graph.{HasCycle}
use Rattle.cqa_model.specs.Plan.{IsElimination, IsEliminationOf, IsPlan, IsPlanOf}
use Rattle.cqa_model.proofs.Attacks.{rest}
use Rattle.cqa_model.proofs.Cycles.{stuck, has_cycle-before, below, below-all}
use Rattle.key_closure.specs.declared.atom_set.AtomSet.{AtomSet}
use Rattle.key_closure.specs.declared.view.View.{View}
use Rattle.key_closure.specs.Sets.{HasAtom}
use Rattle.key_closure.specs.Members.{seen, IsLeft, AreSame}
use Rattle.key_closure.proofs.Members.{is_in-linked}
use Rattle.attack_graph.proofs.Sameness.{same-sym, same-attacks}
use Rattle.fo_rewrite.specs.Planning.{IsAttacked, IsStuck, IsNext, IsFirstUnattacked}
use Rattle.fo_rewrite.proofs.Sameness.{same-cycle, same-elimination, same-plan}

-- one more atom whose attacks are gathered
pub attacked-more : (R : ℕ → ℕ → Type 0) (old row new : AtomSet) (i : ℕ) → ((G : ℕ) → HasAtom old G ↔ ((F : ℕ) × (F < i) × R F G)) → ((G : ℕ) → HasAtom row G ↔ R i G) →
    ((G : ℕ) → HasAtom new G ↔ (HasAtom old G ⊎ HasAtom row G)) → (G : ℕ) → HasAtom new G ↔ ((F : ℕ) × (F < i + 1) × R F G)
attacked-more R old row new i h r n G = (
  (λ m. elim ((n G).0 m) [ inl o ↦ let w = (h G).0 o in (w.0, omega (arith, w.1), w.2) | inr a ↦ (i, omega arith, (r G).0 a) ]),
  (λ p. go p (ℕ_discrete p.0 i)),
)
  where
    go : (p : (F : ℕ) × (F < i + 1) × R F G) → Dec (p.0 ≡ i) → HasAtom new G
    go p (yes e) = (n G).1 (inr ((r G).1 (subst (λ z. R z G) e p.2)))
    go p (no f) = (n G).1 (inl ((h G).1 (p.0, omega (arith, p.1, f), p.2)))

-- an atom that is left and isn't attacked
pub next-from : (q : Query) (view : View) (left attacked : AtomSet) → ((K : ℕ) → HasAtom left K ↔ IsLeft q view K) → ((G : ℕ) → HasAtom attacked G ↔ IsAttacked q (seen q view) G) →
    (G : ℕ) → HasAtom left G → (HasAtom attacked G → ⊥) → IsNext q (seen q view) G
next-from q view left attacked hl ha G has free = record { has = (hl G).0 has; free = λ F a. free ((ha G).1 (F, a)) }

-- an atom that is attacked once another is taken out was attacked before
pub attacked-before : (q : Query) (view new : View) (K : ℕ) → AreSame (after q (seen q view) K) (seen q new) → (G : ℕ) → IsAttacked q (seen q new) G → IsAttacked q (seen q view) G
attacked-before q view new K s G (F, a) =
    (F, rest q (seen q view) (λ u v l f. is_in-linked q view.fixed u v l f) K F G (same-attacks q (seen q new) (after q (seen q view) K) (same-sym (after q (seen q view) K) (seen q new) s) F G a))

-- so far: an elimination order of what is left continues the order to one of the query, so does the plan where each atom
-- was the first, and a cycle of what is left is one of the query
pub record Planned (q : Query) (firsts : Type 0) (view : View) (left : AtomSet) (order : List ℕ) : Type 0 where
  pub left_is : (K : ℕ) → HasAtom left K ↔ IsLeft q view K
  pub eliminates : (p : List ℕ) → IsElimination q (seen q view) p → IsEliminationOf q (order ++ p)
  pub plan : firsts → (p : List ℕ) → IsPlan q (seen q view) p → IsPlanOf q (order ++ p)
  pub cycle : HasCycle q (seen q view) → HasCycle q (whole q)

module _ (q : Query) (firsts : Type 0) (view : View) where
  pub planned-start : (left : AtomSet) → AreSame (whole q) (seen q view) → ((K : ℕ) → HasAtom left K ↔ IsLeft q view K) → Planned q firsts view left []
  planned-start left s h = record {
    left_is = h;
    eliminates = λ p m. same-elimination q (seen q view) (whole q) (same-sym (whole q) (seen q view) s) p m;
    plan = λ f p m. same-plan q (seen q view) (whole q) (same-sym (whole q) (seen q view) s) p m;
    cycle = λ c. same-cycle q (seen q view) (whole q) (same-sym (whole q) (seen q view) s) c;
  }

  pub planned-more : (left rest : AtomSet) (order : List ℕ) (K : ℕ) (new : View) → Planned q firsts view left order → IsNext q (seen q view) K → (firsts → IsFirstUnattacked q (seen q view) K) →
      AreSame (after q (seen q view) K) (seen q new) → ((k : ℕ) → HasAtom rest k ↔ (HasAtom left k × (k ≢ K))) → Planned q firsts new rest (order ++ (K ∷ []))
  planned-more left rest order K new g next first s h = record {
    left_is = λ L. (
      (λ m. let w = (h L).0 m in (s.has L).0 ((g.left_is L).0 w.0, w.1)),
      (λ m. let w = (s.has L).1 m in (h L).1 ((g.left_is L).1 w.0, w.1)),
    );
    eliminates = λ p m. rw append_assoc (g.eliminates (K ∷ p) (next.has, next.free, same-elimination q (seen q new) (after q (seen q view) K) back p m));
    plan = λ f p m. rw append_assoc (g.plan f (K ∷ p) (next.has, next.free, (λ G hG l u. let w = first f G l hG in u w.0 w.1), same-plan q (seen q new) (after q (seen q view) K) back p m));
    cycle = λ c. g.cycle (has_cycle-before q (seen q view) (λ u v l f. is_in-linked q view.fixed u v l f) K (same-cycle q (seen q new) (after q (seen q view) K) back c));
  }
    where
      back : AreSame (seen q new) (after q (seen q view) K)
      back = same-sym (after q (seen q view) K) (seen q new) s

  -- atoms are left, and each is attacked
  pub planned-none : (left : AtomSet) (order : List ℕ) → Planned q firsts view left order → IsStuck q (seen q view) → (K : ℕ) → HasAtom left K → HasCycle q (whole q)
  planned-none left order g st K m = g.cycle (stuck q (seen q view) st (below (length q.atoms)) (λ F h. below-all (length q.atoms) F h.0) K ((g.left_is K).0 m))

  -- no atom is left
  module _ (left all : AtomSet) (order : List ℕ) (g : Planned q firsts view left order) (full : (k : ℕ) → HasAtom all k ↔ (k < 12)) (none : (k : ℕ) → HasAtom left k → HasAtom all k → ⊥) where
    empty : (F : ℕ) → (seen q view).has F → ⊥
    empty F h = none F ((g.left_is F).1 h) ((full F).1 (omega (arith, h.0, q.kept.size.1)))

    pub planned-some : IsEliminationOf q order
    planned-some = subst (IsEliminationOf q) (append-nil order) (g.eliminates [] empty)

    pub planned-first : firsts → IsPlanOf q order
    planned-first f = subst (IsPlanOf q) (append-nil order) (g.plan f [] empty)
