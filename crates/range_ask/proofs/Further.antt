-- One row more, of a block and of rows that are kept.
use Rattle.std.proofs.Common.{◌≡◌, inl, inr, ℕ, ◌+◌, List, [], ◌∷◌, ◌++◌, Option, Some, None, Contains, Bool, true, cond, sym, ◌∙◌, ap, subst, arith}
use Rattle.std.specs.List.{filter}
use Rattle.std.proofs.lemmas.List.Elements.{filter-append, Contains-append_left, Contains-append_right, Contains-push_cases}
use Rattle.cqa_value.specs.declared.value.Value.{Value}
use Rattle.cqa_value.proofs.Words.{clash, cases_next}
use Rattle.cqa_model.proofs.Classic.{mem-head, mem-nil, mem-cases}
use Rattle.range_ask.specs.declared.way.Way.{Way}
use Rattle.range_ask.specs.declared.found.Spot.{Spot}
use Rattle.range_ask.specs.Ranges.{cell}
use Rattle.range_ask.specs.Picks.{Before, IsExtreme}
use Rattle.range_ask.specs.Finding.{row_in_block, IsMissing, IsFurthest}
use Rattle.range_ask.proofs.Ordered.{before-self, before-trans}

module _ (way : Way) (p : List Value → Bool) (col : ℕ) (block : List (List Value)) (next : Spot) (t : p (row_in_block block next.at) ≡ true) (e : row_in_block block next.at ≡ next.row.now) where
  -- the row itself
  itself : (i : ℕ) → i ≡ next.at → Before way (cell (row_in_block block i) col) (cell next.row.now col)
  itself i same = subst (λ k. Before way (cell (row_in_block block k) col) (cell next.row.now col)) (sym same) (subst (λ r. Before way (cell r col) (cell next.row.now col)) (sym e) (before-self way (cell next.row.now col)))

  pub spot-first : IsFurthest way p col block next.at None → IsFurthest way p col block (next.at + 1) (Some next)
  spot-first none = (omega arith, t, e, λ i l u. elim (cases_next i next.at l) [ inl lt ↦ absurd (clash (p (row_in_block block i)) u (none i lt)) | inr same ↦ itself i same ])

  pub spot-further : (spot : Spot) → IsFurthest way p col block next.at (Some spot) → Before way (cell spot.row.now col) (cell next.row.now col) → IsFurthest way p col block (next.at + 1) (Some next)
  spot-further spot (l, s, is, far) b = (
    omega arith,
    t,
    e,
    λ i k u. elim (cases_next i next.at k) [
      | inl lt ↦ before-trans way (cell (row_in_block block i) col) (cell spot.row.now col) (cell next.row.now col) (far i lt u) b
      | inr same ↦ itself i same
    ],
  )

pub missing-more : (p : List Value → Bool) (block : List (List Value)) (n : ℕ) (m : Option ℕ) → p (row_in_block block n) ≡ true → IsMissing p block n m → IsMissing p block (n + 1) m
missing-more p block n None t all = λ i l. elim (cases_next i n l) [ inl lt ↦ all i lt | inr same ↦ subst (λ k. p (row_in_block block k) ≡ true) (sym same) t ]
missing-more p block n (Some at) t (l, e) = (omega (arith, l), e)

-- ---- rows that are kept, with one more

module _ (p : List Value → Bool) (xs : List (List Value)) (x : List Value) (t : p x ≡ true) where
  pub filter-more : filter p (xs ++ x ∷ []) ≡ filter p xs ++ x ∷ []
  filter-more = filter-append p xs (x ∷ []) ∙ ap (λ b. filter p xs ++ cond b (x ∷ []) []) t

  module _ (way : Way) (col : ℕ) (y : List Value) (e : x ≡ y) where
    pub row-first : IsExtreme way col (filter p xs) None → IsExtreme way col (filter p (xs ++ x ∷ [])) (Some y)
    row-first none = subst (λ zs. IsExtreme way col zs (Some y)) (sym (filter-more ∙ ap (λ zs. zs ++ x ∷ []) none)) (
      subst (Contains (x ∷ [])) e (mem-head x []),
      λ z m. elim (mem-cases z x [] m) [
        | inl same ↦ subst (λ k. Before way (cell k col) (cell y col)) (sym e ∙ same) (before-self way (cell y col))
        | inr n ↦ absurd (mem-nil z n)
      ],
    )

    pub row-further : (o : List Value) → IsExtreme way col (filter p xs) (Some o) → Before way (cell o col) (cell y col) → IsExtreme way col (filter p (xs ++ x ∷ [])) (Some y)
    row-further o (m, all) b = subst (λ zs. IsExtreme way col zs (Some y)) (sym filter-more) (
      subst (Contains (filter p xs ++ x ∷ [])) e (Contains-append_right (filter p xs) (x ∷ []) x (mem-head x [])),
      λ z n. elim (Contains-push_cases (filter p xs) x z n) [
        | inl old ↦ before-trans way (cell z col) (cell o col) (cell y col) (all z old) b
        | inr same ↦ subst (λ k. Before way (cell k col) (cell y col)) (sym e ∙ same) (before-self way (cell y col))
      ],
    )

    pub row-stays : (o : List Value) → IsExtreme way col (filter p xs) (Some o) → Before way (cell y col) (cell o col) → IsExtreme way col (filter p (xs ++ x ∷ [])) (Some o)
    row-stays o (m, all) b = subst (λ zs. IsExtreme way col zs (Some o)) (sym filter-more) (
      Contains-append_left (filter p xs) (x ∷ []) o m,
      λ z n. elim (Contains-push_cases (filter p xs) x z n) [
        | inl old ↦ all z old
        | inr same ↦ subst (λ k. Before way (cell k col) (cell o col)) (sym e ∙ same) b
      ],
    )
