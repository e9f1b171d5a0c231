-- A row that is put behind others, whatever their order then.
use Rattle.std.proofs.Common.{◌≡◌, ◌↔◌, ◌⊎◌, ◌++◌, ◌∷◌, [], inl, inr, List, Contains, subst}
use Rattle.std.proofs.lemmas.List.Elements.{Contains-push, Contains-push_cases, Contains-append_left}
use Rattle.cqa_value.specs.declared.value.Value.{Value}

pub put-more : (old new : List (List Value)) (row : List Value) → ((other : List Value) → Contains new other ↔ Contains (old ++ row ∷ []) other) → (other : List Value) → Contains new other ↔ (Contains old other ⊎ (row ≡ other))
put-more old new row same other = (
  λ m. Contains-push_cases old row other ((same other).0 m),
  λ k. elim k [
    | inl k ↦ (same other).1 (Contains-append_left old (row ∷ []) other k)
    | inr is ↦ (same other).1 (subst (Contains (old ++ row ∷ [])) is (Contains-push old row))
  ],
)
