-- Turns over clauses, one after the other.
use Rattle.std.proofs.Common.{◌≡◌, ℕ, ◌<◌, ◌+◌, inl, inr, List, [], ◌∷◌, ◌++◌, take, Some, slice_get, sym, ◌∙◌, ap, subst, Contains}
use Rattle.std.proofs.lemmas.List.{take_more}
use Rattle.std.proofs.lemmas.List.Elements.{Contains-push_cases}
use Rattle.std.proofs.lemmas.Option.{get_or_from_slice_get, slice_get_within}
use Rattle.cqa_value.proofs.Words.{Contains-slice_get}
use Rattle.cnf_form.specs.declared.formula.Lit.{Lit}
use Rattle.cnf_form.specs.declared.formula.Truth.{Truth}
use Rattle.flat_formula.specs.Looks.{AreBelow, AreAllBelow, HasTrue, HaveTrue}

pub are_below : (n m : ℕ) (f : List (List Lit)) (at : ℕ) (c : List Lit) → AreAllBelow n f → slice_get f at ≡ Some c → m ≡ n → AreBelow m c
are_below n m f at c h e same l i = subst (λ k. l.var < k) (sym same) (h c (Contains-slice_get f at c e) l i)

next_clause : (f : List (List Lit)) (at : ℕ) (c : List Lit) → slice_get f at ≡ Some c → take (at + 1) f ≡ take at f ++ c ∷ []
next_clause f at c e = take_more f at c (slice_get_within f at c e) ∙ ap (λ x. take at f ++ x ∷ []) (get_or_from_slice_get f at c c e)

pub true-next : (old new : List Truth) (f : List (List Lit)) (at : ℕ) (c : List Lit) → slice_get f at ≡ Some c → HaveTrue old (take at f) → new ≡ old → HasTrue new c → HaveTrue new (take (at + 1) f)
true-next old new f at c e h same here d m = elim (Contains-push_cases (take at f) c d (subst (λ cs. Contains cs d) (next_clause f at c e) m)) [
  | inl i ↦ subst (λ vs. HasTrue vs d) (sym same) (h d i)
  | inr s ↦ subst (HasTrue new) s here
]
