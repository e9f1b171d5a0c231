-- One part more is looked at for a table that isn't strict and that it shares.
use Rattle.std.proofs.Common.{◌≡◌, ◌∙◌, ◌<◌, ◌+◌, ℕ, inl, inr, Bool, List, get_or, sym, subst}
use Rattle.std.proofs.lemmas.List.{get_or_default}
use Rattle.cqa_value.proofs.Words.{cases_next}
use Rattle.cqa_model.specs.declared.query.Query.{Query}
use Rattle.query_strategy.specs.Apart.{IsPartAt}
use Rattle.union_ask.specs.Apart.{IsGivenPart, ShareLoose, SharesLater}

module _ (parts : List Query) (given : List Bool) where
  -- a part shares none with the later ones up to a place
  abbrev pub NoneLater : ℕ → ℕ → Type 0
  NoneLater at later = (j : ℕ) (p q : Query) → at < j → j < later → IsPartAt parts at p → IsGivenPart parts given j q → ShareLoose p q → ⊥

  -- the parts up to a place share none with later ones
  abbrev pub NoneBefore : ℕ → Type 0
  NoneBefore at = (i j : ℕ) (p q : Query) → i < at → i < j → IsGivenPart parts given i p → IsGivenPart parts given j q → ShareLoose p q → ⊥

  -- the part at a place is the item there
  same-part : (k : ℕ) (p item : Query) → IsPartAt parts k p → item ≡ get_or parts k item → p ≡ item
  same-part k p item is e = sym is.1 ∙ get_or_default parts k p item is.0 ∙ sym e

  pub later-more : (at later : ℕ) (x y : Query) → x ≡ get_or parts at x → y ≡ get_or parts later y → (ShareLoose x y → ⊥) → NoneLater at later → NoneLater at (later + 1)
  later-more at later x y ex ey none so_far j p q before l ip gq s = elim (cases_next j later l) [
    | inl less ↦ so_far j p q before less ip gq s
    | inr e ↦ none (subst (λ z. ShareLoose z y) (same-part at p x ip ex) (subst (ShareLoose p) (same-part later q y (subst (λ k. IsPartAt parts k q) e gq.0) ey) s))
  ]

  pub before-more : (at : ℕ) → (SharesLater parts given at → ⊥) → NoneBefore at → NoneBefore (at + 1)
  before-more at none so_far i j p q l before gp gq s = elim (cases_next i at l) [
    | inl less ↦ so_far i j p q less before gp gq s
    | inr e ↦ none (j, subst (λ k. k < j) e before, (p, q, subst (λ k. IsPartAt parts k p) e gp.0, gq, s))
  ]
