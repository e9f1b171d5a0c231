-- Steps of the code that closes sets.
use Rattle.std.proofs.Common.{◌≡◌, ℕ, ◌+◌, Bool, true, ◌<◌, ◌≢◌, ◌↔◌, ◌⊎◌, inl, inr, sym, subst, arith}
use native.Mathlib.Decide.{ℕ_discrete}
use Rattle.cqa_model.specs.declared.query.ColRef.{ColRef}
use Rattle.cqa_model.specs.declared.query.Query.{Query}
use Rattle.cqa_model.specs.Variables.{View as Rest}
use Rattle.cqa_model.specs.Variables.{number, IsVar, IsKeyVar}
use Rattle.cqa_model.specs.Closures.{InClosure, IsDerivation}
use Rattle.std.proofs.Common.{List, [], ◌∷◌}
use Rattle.cqa_model.proofs.Classic.{mem-head}
use Rattle.cqa_model.proofs.Views.{linked-self}
use Rattle.cqa_model.proofs.Interface.{closure-within, closure-keeps, dec_free}
use Rattle.key_closure.specs.declared.variable_set.VarSet.{VarSet}
use Rattle.key_closure.specs.declared.atom_set.AtomSet.{AtomSet}
use Rattle.key_closure.specs.declared.view.View.{View}
use Rattle.key_closure.specs.Sets.{Has, HasAtom}
use Rattle.key_closure.specs.Members.{IsIn, IsSetOf, IsProper, seen, IsReady, IsAmong}
use Rattle.key_closure.proofs.Members.{is_in-linked, dec_in}

-- what is in a union
pub in_union : (q : Query) (a b s : VarSet) → ((k : ℕ) → Has s k ↔ (Has a k ⊎ Has b k)) → (c : ColRef) → IsIn q s c → IsIn q a c ⊎ IsIn q b c
in_union q a b s h c (d, r, l, least, m) = elim ((h (number d)).0 m) [ inl x ↦ inl (d, r, l, least, x) | inr y ↦ inr (d, r, l, least, y) ]

pub union_left : (q : Query) (a b s : VarSet) → ((k : ℕ) → Has s k ↔ (Has a k ⊎ Has b k)) → (c : ColRef) → IsIn q a c → IsIn q s c
union_left q a b s h c (d, r, l, least, m) = (d, r, l, least, (h (number d)).1 (inl m))

pub union_right : (q : Query) (a b s : VarSet) → ((k : ℕ) → Has s k ↔ (Has a k ⊎ Has b k)) → (c : ColRef) → IsIn q b c → IsIn q s c
union_right q a b s h c (d, r, l, least, m) = (d, r, l, least, (h (number d)).1 (inr m))

pub union-proper : (q : Query) (a b s : VarSet) → ((k : ℕ) → Has s k ↔ (Has a k ⊎ Has b k)) → IsProper q a → IsProper q b → IsProper q s
union-proper q a b s h pa pb k m = elim ((h k).0 m) [ inl x ↦ pa k x | inr y ↦ pb k y ]

-- the closure so far: each atom waits, or its variables are in the set
pub record Grown (q : Query) (view : View) (start : VarSet) (atoms : AtomSet) (set : VarSet) (waiting : AtomSet) : Type 0 where
  pub sound : (c : ColRef) → IsIn q set c → InClosure q (seen q view) (IsAmong q atoms) (IsIn q start) c
  pub starts : (c : ColRef) → IsIn q start c → IsIn q set c
  pub waits : (K : ℕ) → HasAtom waiting K → HasAtom atoms K
  pub fired : (K : ℕ) → IsAmong q atoms K → HasAtom waiting K ⊎ ((c : ColRef) → IsVar q (seen q view) K c → IsIn q set c)
  pub proper : IsProper q start → IsProper q set

module _ (q : Query) (view : View) (start : VarSet) (atoms : AtomSet) where
  keeps : (K : ℕ) → IsAmong q atoms K → ((u : ColRef) → IsKeyVar q (seen q view) K u → InClosure q (seen q view) (IsAmong q atoms) (IsIn q start) u) →
      (v : ColRef) → IsVar q (seen q view) K v → InClosure q (seen q view) (IsAmong q atoms) (IsIn q start) v
  keeps = closure-keeps q (seen q view) (λ u v l h. is_in-linked q view.fixed u v l h) (IsAmong q atoms) (IsIn q start) (dec_free q (seen q view) (dec_in q view.fixed))

  pub grown-start : Grown q view start atoms start atoms
  grown-start = record {
    sound = λ c h. (c ∷ [], (inl h, tt), (c, mem-head c [], linked-self q c));
    starts = λ c h. h;
    waits = λ K h. h;
    fired = λ K h. inl h.1;
    proper = λ h. h;
  }

  pub grown-more : (set : VarSet) (waiting : AtomSet) (K : ℕ) (vars new : VarSet) (rest : AtomSet) → Grown q view start atoms set waiting →
      IsAmong q waiting K → IsReady q view set K → IsSetOf q vars (IsVar q (seen q view) K) → IsProper q vars → ((k : ℕ) → Has new k ↔ (Has set k ⊎ Has vars k)) →
      ((k : ℕ) → HasAtom rest k ↔ (HasAtom waiting k × (k ≢ K))) → Grown q view start atoms new rest
  grown-more set waiting K vars new rest g u ready is named union taken = record {
    sound = λ c h. elim (in_union q set vars new union c h) [
      | inl m ↦ g.sound c m
      | inr m ↦ keeps K (u.0, g.waits K u.1) (λ v kv. g.sound v (ready v kv)) c ((is c).0 m)
    ];
    starts = λ c h. union_left q set vars new union c (g.starts c h);
    waits = λ L h. g.waits L ((taken L).0 h).0;
    fired = λ L h. go L (ℕ_discrete L K) (g.fired L h);
    proper = λ h. union-proper q set vars new union (g.proper h) named;
  }
    where
      go : (L : ℕ) → Dec (L ≡ K) → HasAtom waiting L ⊎ ((c : ColRef) → IsVar q (seen q view) L c → IsIn q set c) → HasAtom rest L ⊎ ((c : ColRef) → IsVar q (seen q view) L c → IsIn q new c)
      go L (yes e) f = inr (λ c m. union_right q set vars new union c ((is c).1 (subst (λ z. IsVar q (seen q view) z c) e m)))
      go L (no n) (inl w) = inl ((taken L).1 (w, n))
      go L (no n) (inr f) = inr (λ c m. union_left q set vars new union c (f c m))

  pub grown-end : (set : VarSet) (waiting : AtomSet) → Grown q view start atoms set waiting → ((K : ℕ) → IsAmong q waiting K → IsReady q view set K → ⊥) →
      IsSetOf q set (InClosure q (seen q view) (IsAmong q atoms) (IsIn q start))
  grown-end set waiting g none c = (
    g.sound c,
    closure-within q (seen q view) (λ u v l h. is_in-linked q view.fixed u v l h) (IsAmong q atoms) (IsIn q start) (IsIn q set) (is_in-linked q set) g.starts
        (λ K uK ready v m. elim (g.fired K uK) [ inl w ↦ absurd (none K (uK.0, w) ready) | inr f ↦ f v m ]) c,
  )

-- more atoms in use and a greater start give a greater closure
module _ (q : Query) (view : Rest) (use1 use2 : ℕ → Type 0) (start1 start2 : ColRef → Type 0) (more_uses : (K : ℕ) → use1 K → use2 K) (more : (v : ColRef) → start1 v → start2 v) where
  derivation-map : (vs : List ColRef) → IsDerivation q view use1 start1 vs → IsDerivation q view use2 start2 vs
  derivation-map [] d = tt
  derivation-map (v ∷ vs) d = (elim d.0 [ inl s ↦ inl (more v s) | inr h ↦ inr (h.0, more_uses h.0 h.1, h.2, h.3) ], derivation-map vs d.1)

  pub closure-map : (v : ColRef) → InClosure q view use1 start1 v → InClosure q view use2 start2 v
  closure-map v c = (c.0, derivation-map c.0 c.1, c.2)

-- one more turn of a loop that fills a set by a test
pub filter-more : (P : ℕ → Type 0) (old new : AtomSet) (i : ℕ) (b : Bool) → ((K : ℕ) → HasAtom old K ↔ ((K < i) × P K)) → (b ≡ true) ↔ P i →
    ((K : ℕ) → HasAtom new K ↔ (HasAtom old K ⊎ ((b ≡ true) × (K ≡ i)))) → (K : ℕ) → HasAtom new K ↔ ((K < i + 1) × P K)
filter-more P old new i b h t n K = (
  (λ m. elim ((n K).0 m) [ inl o ↦ let w = (h K).0 o in (omega (arith, w.0), w.1) | inr e ↦ (omega (arith, e.1), subst P (sym e.1) (t.0 e.0)) ]),
  (λ p. go (ℕ_discrete K i) p),
)
  where
    go : Dec (K ≡ i) → (K < i + 1) × P K → HasAtom new K
    go (yes e) p = (n K).1 (inr (t.1 (subst P e p.1), e))
    go (no f) p = (n K).1 (inl ((h K).1 (omega (arith, p.0, f), p.1)))
