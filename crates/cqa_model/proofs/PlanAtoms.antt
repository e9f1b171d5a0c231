-- An elimination order names each atom of its view, and each once.
use Rattle.std.proofs.Common.{◌≡◌, ℕ, zero, suc, ◌<◌, List, [], ◌∷◌, length, get_or, refl, ap, sym, subst, arith, Contains, ◌∙◌}
use native.Mathlib.Decide.{ℕ_discrete}
use Rattle.std.specs.List.{All}
use Rattle.std.proofs.lemmas.List.{get_or_default}
use Rattle.std.proofs.lemmas.List.Elements.{Contains-get_or}
use Rattle.cqa_model.specs.declared.query.Query.{Query}
use Rattle.cqa_model.specs.Shape.{AreDistinct}
use Rattle.cqa_model.specs.Variables.{View, whole, after}
use Rattle.cqa_model.specs.Plan.{IsElimination, IsEliminationOf}
use Rattle.cqa_model.proofs.Classic.{mem-head, mem-tail}

module _ (q : Query) where
  in_view : (plan : List ℕ) (view : View) → IsElimination q view plan → (i : ℕ) → i < length plan → view.has (get_or plan i 0)
  in_view [] view h i l = absurd (omega (arith, l))
  in_view (F ∷ plan) view h zero l = h.0
  in_view (F ∷ plan) view h (suc i) l = (in_view plan (after q view F) h.2 i (omega (arith, l))).0

  apart : (F : ℕ) (plan : List ℕ) (view : View) → IsElimination q (after q view F) plan → (i : ℕ) → i < length plan → get_or plan i 0 ≡ F → ⊥
  apart F plan view h i l e = (in_view plan (after q view F) h i l).1 e

  pub plan-distinct : (plan : List ℕ) (view : View) → IsElimination q view plan → AreDistinct plan
  plan-distinct [] view h i j a b e = absurd (omega (arith, a))
  plan-distinct (F ∷ plan) view h zero zero a b e = refl
  plan-distinct (F ∷ plan) view h zero (suc j) a b e = absurd (apart F plan view h.2 j (omega (arith, b)) (sym e))
  plan-distinct (F ∷ plan) view h (suc i) zero a b e = absurd (apart F plan view h.2 i (omega (arith, a)) e)
  plan-distinct (F ∷ plan) view h (suc i) (suc j) a b e = ap suc (plan-distinct plan (after q view F) h.2 i j (omega (arith, a)) (omega (arith, b)) e)

  -- an elimination order names atoms of the query
  pub plan-atoms : (plan : List ℕ) → IsEliminationOf q plan → (F : ℕ) → Contains plan F → F < length q.atoms
  plan-atoms plan h F (i, l, e) = subst (λ z. z < length q.atoms) (get_or_default plan i 0 F l ∙ e) (in_view plan (whole q) h i l)

  -- so does a list of the same numbers
  pub plan-within : (plan order : List ℕ) → order ≡ plan → IsEliminationOf q plan → All (λ F. F < length q.atoms) order
  plan-within plan order e h i d l = plan-atoms plan h (get_or order i d) (subst (λ xs. Contains xs (get_or order i d)) e (Contains-get_or order i d l))

  -- an elimination order has all atoms of its view
  pub plan-all : (view : View) (plan : List ℕ) → IsElimination q view plan → (F : ℕ) → view.has F → Contains plan F
  plan-all view [] h F has = absurd (h F has)
  plan-all view (G ∷ plan) h F has = go (ℕ_discrete F G) (λ ne. plan-all (after q view G) plan h.2 F (has, ne))
    where
      go : Dec (F ≡ G) → ((F ≡ G → ⊥) → Contains plan F) → Contains (G ∷ plan) F
      go (yes e) next = subst (λ z. Contains (G ∷ plan) z) (sym e) (mem-head G plan)
      go (no ne) next = mem-tail F G plan (next ne)
