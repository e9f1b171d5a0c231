-- Lists each of which has a loose row are avoided.
use Rattle.std.proofs.Common.{◌≡◌, ◌∙◌, ℕ, ◌<◌, ◌+◌, ◌++◌, ◌∷◌, List, [], inl, inr, length, length-append, get_or, Bool, sym, ap, subst, arith}
use Rattle.std.proofs.lemmas.List.{get_or_append_left, get_or_push}
use Rattle.std.proofs.lemmas.List.Elements.{Contains-push_cases}
use Rattle.cqa_value.proofs.Words.{cases_next}
use Rattle.cqa_model.specs.declared.query.RowId.{RowId}
use Rattle.cqa_model.specs.Database.{Table}
use Rattle.table_blocks.specs.Tables.{rows_at, key_at}
use Rattle.row_lists.specs.Lists.{name, HasFree}
use Rattle.row_lists.specs.Frames.{AreTablePlaces}
use Rattle.row_lists.specs.Loose.{HasFreePlace}
use Rattle.list_search.specs.Avoiding.{AreLooseOf, AreLooseMarks, HasLoose, HaveLoose}
use Rattle.list_search.specs.Quotients.{columns_at}

module _ (db : List Table) (lists : List (List RowId)) (table : ℕ) (places : List ℕ) (c : AreTablePlaces lists table places) where
  -- a place with a free place in its block is that of a row with a free row
  pub free-row : (p : ℕ) → HasFreePlace (key_at db table) (rows_at db table) places p → HasFree db lists (name table p)
  free-row p f = record { free = f.free; there = f.there; shares = f.shares; apart = λ i. f.apart ((c.exactly f.free).1 i) }

-- ---- the marks of one slot more

module _ (db : List Table) (frame : List ℕ) (columns : List (List ℕ)) (lists : List (List RowId)) where
  pub loose-none : (loose : List (List Bool)) → loose ≡ [] → AreLooseMarks db frame columns lists 0 loose
  loose-none loose e = record { size = ap length e; each = λ s l. absurd (omega (arith, l)); free = λ s l. absurd (omega (arith, l)) }

  pub loose-more : (n : ℕ) (old new : List (List Bool)) (marks : List Bool) → AreLooseMarks db frame columns lists n old → length marks ≡ length (columns_at columns n) → AreLooseOf db frame columns lists n marks → new ≡ old ++ marks ∷ [] →
      AreLooseMarks db frame columns lists (n + 1) new
  loose-more n old new marks h size free e = subst (AreLooseMarks db frame columns lists (n + 1)) (sym e) (record {
    size = let k = h.size in let j = length-append old (marks ∷ []) in omega (arith, k, j);
    each = λ s l. elim (cases_next s n l) [
      | inl b ↦ ap length (before s b) ∙ h.each s b
      | inr q ↦ ap length (last s q) ∙ (size ∙ ap (λ k. length (columns_at columns k)) (sym q))
    ];
    free = λ s l. elim (cases_next s n l) [
      | inl b ↦ subst (AreLooseOf db frame columns lists s) (sym (before s b)) (h.free s b)
      | inr q ↦ subst (AreLooseOf db frame columns lists s) (sym (last s q)) (subst (λ k. AreLooseOf db frame columns lists k marks) (sym q) free)
    ];
  })
    where
      before : (s : ℕ) → s < n → get_or (old ++ marks ∷ []) s [] ≡ get_or old s []
      before s b = let k = h.size in get_or_append_left old (marks ∷ []) [] s (omega (arith, b, k))

      last : (s : ℕ) → s ≡ n → get_or (old ++ marks ∷ []) s [] ≡ marks
      last s q = let k = h.size in get_or_push old marks [] s (omega (arith, q, k))

-- the lists so far
pub have-more : (db : List Table) (lists these : List (List RowId)) (names : List RowId) → HaveLoose db lists these → HasLoose db lists names → HaveLoose db lists (these ++ names ∷ [])
have-more db lists these names h f xs m = elim (Contains-push_cases these names xs m) [
  | inl o ↦ h xs o
  | inr e ↦ subst (HasLoose db lists) e f
]
