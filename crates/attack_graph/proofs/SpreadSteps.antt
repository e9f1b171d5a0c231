-- Steps of the code that spreads from an atom's variables outside its closure.
use Rattle.std.proofs.Common.{◌≡◌, ℕ, ◌≢◌, ◌↔◌, ◌⊎◌, inl, inr, [], ◌∷◌, sym, ◌∙◌, subst}
use native.Mathlib.Decide.{ℕ_discrete}
use Rattle.cqa_model.specs.declared.query.ColRef.{ColRef}
use Rattle.cqa_model.specs.declared.query.Query.{Query}
use Rattle.cqa_model.specs.Variables.{number, IsVar, IsKeyVar}
use Rattle.cqa_model.specs.Closures.{InClosure, CountsFor, InPlus}
use Rattle.cqa_model.specs.Graph.{IsReached}
use Rattle.cqa_model.proofs.Columns.{label-of_least}
use Rattle.cqa_model.proofs.Interface.{reached-within}
use Rattle.key_closure.specs.declared.variable_set.VarSet.{VarSet}
use Rattle.key_closure.specs.declared.atom_set.AtomSet.{AtomSet}
use Rattle.key_closure.specs.declared.view.View.{View}
use Rattle.key_closure.specs.Sets.{Has, HasAtom}
use Rattle.key_closure.specs.Members.{IsIn, IsSetOf, seen, IsAmong}
use Rattle.key_closure.proofs.Growing.{in_union, union_left, union_right, closure-map}
use Rattle.attack_graph.specs.Attacking.{IsTouched}

pub plus-set : (q : Query) (view : View) (F : ℕ) (start s : VarSet) (atoms : AtomSet) → IsSetOf q start (IsKeyVar q (seen q view) F) →
    ((K : ℕ) → HasAtom atoms K ↔ CountsFor q (seen q view) F K) →
    IsSetOf q s (InClosure q (seen q view) (IsAmong q atoms) (IsIn q start)) → IsSetOf q s (InPlus q (seen q view) F)
plus-set q view F start s atoms hs ha hc c = (
  (λ m. closure-map q (seen q view) (IsAmong q atoms) (CountsFor q (seen q view) F) (IsIn q start) (IsKeyVar q (seen q view) F) (λ K u. (ha K).0 u.1) (λ v i. (hs v).0 i) c ((hc c).0 m)),
  (λ p. (hc c).1 (closure-map q (seen q view) (CountsFor q (seen q view) F) (IsAmong q atoms) (IsKeyVar q (seen q view) F) (IsIn q start) (λ K u. (u.0.0, (ha K).1 u)) (λ v i. (hs v).1 i) c p)),
)

-- what is in a difference
pub in_without : (q : Query) (a b s : VarSet) (P Q : ColRef → Type 0) → IsSetOf q a P → IsSetOf q b Q → ((k : ℕ) → Has s k ↔ (Has a k × (Has b k → ⊥))) →
    IsSetOf q s (λ c. P c × (Q c → ⊥))
in_without q a b s P Q ha hb h c = (into, from)
  where
    into : IsIn q s c → P c × (Q c → ⊥)
    into (d, r, l, least, m) =
        let w = (h (number d)).0 m in
        ((ha c).0 (d, r, l, least, w.0), (λ p. let n = (hb c).1 p in w.1 (subst (λ z. Has b z) (same_least n) n.4)))
      where
        same_least : (n : IsIn q b c) → number n.0 ≡ number d
        same_least n = sym (label-of_least q c n.0 n.1 n.2 n.3) ∙ label-of_least q c d r l least

    from : P c × (Q c → ⊥) → IsIn q s c
    from p = let n = (ha c).1 p.0 in (n.0, n.1, n.2, n.3, (h (number n.0)).1 (n.4, (λ m. p.1 ((hb c).0 (n.0, n.1, n.2, n.3, m)))))

pub record Spread (q : Query) (view : View) (F : ℕ) (set : VarSet) (waiting : AtomSet) : Type 0 where
  pub sound : (c : ColRef) → IsIn q set c → IsReached q (seen q view) F c
  pub first : (c : ColRef) → (InPlus q (seen q view) F c → ⊥) → IsVar q (seen q view) F c → IsIn q set c
  pub waits : (K : ℕ) → HasAtom waiting K → (seen q view).has K
  pub fired : (K : ℕ) → (seen q view).has K → HasAtom waiting K ⊎ ((c : ColRef) → IsVar q (seen q view) K c → (InPlus q (seen q view) F c → ⊥) → IsIn q set c)

module _ (q : Query) (view : View) (F : ℕ) where
  pub spread-start : (set : VarSet) (all : AtomSet) → IsSetOf q set (λ c. IsVar q (seen q view) F c × (InPlus q (seen q view) F c → ⊥)) →
      ((K : ℕ) → HasAtom all K ↔ (seen q view).has K) → Spread q view F set all
  spread-start set all hs ha = record {
    sound = λ c m. let p = (hs c).0 m in ([], (p.1, p.0));
    first = λ c n v. (hs c).1 (v, n);
    waits = λ K h. (ha K).0 h;
    fired = λ K h. inl ((ha K).1 h);
  }

  pub spread-more : (set : VarSet) (waiting : AtomSet) (K : ℕ) (out new : VarSet) (rest : AtomSet) → Spread q view F set waiting →
      IsAmong q waiting K → IsTouched q view set K → IsSetOf q out (λ c. IsVar q (seen q view) K c × (InPlus q (seen q view) F c → ⊥)) →
      ((k : ℕ) → Has new k ↔ (Has set k ⊎ Has out k)) →
      ((k : ℕ) → HasAtom rest k ↔ (HasAtom waiting k × (k ≢ K))) → Spread q view F new rest
  spread-more set waiting K out new rest g u touch is union taken = record {
    sound = λ c h. elim (in_union q set out new union c h) [
      | inl m ↦ g.sound c m
      | inr m ↦ let p = (is c).0 m in let s = g.sound touch.0 touch.1 in (touch.0 ∷ s.0, (p.1, (K, g.waits K u.1, touch.2, p.0), s.1))
    ];
    first = λ c n v. union_left q set out new union c (g.first c n v);
    waits = λ L h. g.waits L ((taken L).0 h).0;
    fired = λ L h. go L (ℕ_discrete L K) (g.fired L h);
  }
    where
      go : (L : ℕ) → Dec (L ≡ K) → HasAtom waiting L ⊎ ((c : ColRef) → IsVar q (seen q view) L c → (InPlus q (seen q view) F c → ⊥) → IsIn q set c) →
          HasAtom rest L ⊎ ((c : ColRef) → IsVar q (seen q view) L c → (InPlus q (seen q view) F c → ⊥) → IsIn q new c)
      go L (yes e) f = inr (λ c m n. union_right q set out new union c ((is c).1 (subst (λ z. IsVar q (seen q view) z c) e m, n)))
      go L (no n) (inl w) = inl ((taken L).1 (w, n))
      go L (no n) (inr f) = inr (λ c m o. union_left q set out new union c (f c m o))

  pub spread-end : (set : VarSet) (waiting : AtomSet) → Spread q view F set waiting → ((K : ℕ) → IsAmong q waiting K → IsTouched q view set K → ⊥) →
      IsSetOf q set (IsReached q (seen q view) F)
  spread-end set waiting g none c = (
    g.sound c,
    reached-within q (seen q view) F (IsIn q set) g.first (λ u v m t n. step u v m t.0 t.1 t.2 t.3 n) c,
  )
    where
      step : (u v : ColRef) → IsIn q set u → (H : ℕ) → (seen q view).has H → IsVar q (seen q view) H u → IsVar q (seen q view) H v → (InPlus q (seen q view) F v → ⊥) → IsIn q set v
      step u v m H hH hu hv n = elim (g.fired H hH) [ inl w ↦ absurd (none H (hH.0, w) (u, m, hu)) | inr f ↦ f v hv n ]

pub weak-set : (q : Query) (view : View) (F : ℕ) (start s : VarSet) (all : AtomSet) → IsSetOf q start (IsKeyVar q (seen q view) F) →
    ((K : ℕ) → HasAtom all K ↔ (seen q view).has K) →
    IsSetOf q s (InClosure q (seen q view) (IsAmong q all) (IsIn q start)) → IsSetOf q s (InClosure q (seen q view) (seen q view).has (IsKeyVar q (seen q view) F))
weak-set q view F start s all hs ha hc c = (
  (λ m. closure-map q (seen q view) (IsAmong q all) (seen q view).has (IsIn q start) (IsKeyVar q (seen q view) F) (λ K u. (ha K).0 u.1) (λ v i. (hs v).0 i) c ((hc c).0 m)),
  (λ p. (hc c).1 (closure-map q (seen q view) (seen q view).has (IsAmong q all) (IsKeyVar q (seen q view) F) (IsIn q start) (λ K u. (u.0, (ha K).1 u)) (λ v i. (hs v).1 i) c p)),
)
