-- Rows of sets of atoms.
use Rattle.std.proofs.Common.{◌≡◌, ℕ, ◌+◌, ◌<◌, ◌↔◌, List, [], length, get_or, set, get_or-set_same, get_or-set_other, ap, sym, ◌∙◌, subst, arith}
use native.Mathlib.Decide.{ℕ_discrete}
use Rattle.cqa_model.specs.declared.query.Query.{Query}
use Rattle.cqa_model.specs.Graph.{Attacks as IsAttack}
use Rattle.key_closure.specs.declared.atom_set.AtomSet.{AtomSet}
use Rattle.key_closure.specs.declared.view.View.{View}
use Rattle.key_closure.specs.Sets.{HasAtom}
use Rattle.key_closure.specs.Members.{seen}
use Rattle.attack_graph.specs.Pairs.{HasPair}

-- one more turn of a loop that fills an array of sets
pub rows-more : (P : ℕ → ℕ → Type 0) (old : List AtomSet) (i : ℕ) (s : AtomSet) → length old ≡ 12 → i < 12 → ((F G : ℕ) → HasPair old F G ↔ ((F < i) × P F G)) →
    ((G : ℕ) → HasAtom s G ↔ P i G) → (F G : ℕ) → HasPair (set old i s) F G ↔ ((F < i + 1) × P F G)
rows-more P old i s size li h t F G = go (ℕ_discrete F i)
  where
    none : AtomSet
    none = record { bits = [] }

    go : Dec (F ≡ i) → HasPair (set old i s) F G ↔ ((F < i + 1) × P F G)
    go (yes e) =
        let g : get_or (set old i s) F none ≡ s = ap (λ z. get_or (set old i s) z none) e ∙ get_or-set_same old i s none (omega (arith, size, li)) in (
          (λ m. (omega (arith, e), subst (λ z. P z G) (sym e) ((t G).0 (subst (λ z. HasAtom z G) g m)))),
          (λ p. subst (λ z. HasAtom z G) (sym g) ((t G).1 (subst (λ z. P z G) e p.1))),
        )
    go (no f) =
        let g : get_or (set old i s) F none ≡ get_or old F none = get_or-set_other old i F s none f in (
          (λ m. let w = (h F G).0 (subst (λ z. HasAtom z G) g m) in (omega (arith, w.0), w.1)),
          (λ p. subst (λ z. HasAtom z G) (sym g) ((h F G).1 (omega (arith, p.0, f), p.1))),
        )

-- no atom beyond the twelfth attacks or is attacked
pub attacks-small : (q : Query) (view : View) (rows : List AtomSet) → ((F G : ℕ) → HasPair rows F G ↔ IsAttack q (seen q view) F G) → (F G : ℕ) → HasPair rows F G → (F < 12) × (G < 12)
attacks-small q view rows h F G p = let a = (h F G).0 p in (omega (arith, a.0.0, q.kept.size.1), omega (arith, a.1.0, q.kept.size.1))
