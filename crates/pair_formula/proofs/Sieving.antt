-- Candidates that are sifted, and the row of a query without answer columns.
use Rattle.std.proofs.Common.{◌≡◌, ◌∙◌, inl, inr, List, [], ◌∷◌, sym, ap, subst, Contains, length}
use Rattle.std.proofs.lemmas.List.{nil_from_length}
use Rattle.cqa_value.specs.declared.value.Value.{Value}
use Rattle.cqa_value.specs.Values.{row_cmp}
use Rattle.cqa_value.proofs.Words.{sorted_cons}
use Rattle.cqa_model.specs.declared.query.Query.{Query}
use Rattle.cqa_model.specs.Database.{Table}
use Rattle.cqa_model.specs.Query.{FitsDatabase}
use Rattle.cqa_model.specs.Certain.{IsCertain, IsPossible, IsCandidate, IsCertainAnswer, IsPossibleAnswer}
use Rattle.cqa_model.proofs.Databases.{possible_is_candidate}
use Rattle.cqa_model.proofs.Classic.{mem-head, mem-nil, mem-cases}
use Rattle.join_access.proofs.Extending.{sorted-nil}
use Rattle.row_answers.specs.declared.side.Side.{Side}
use Rattle.row_answers.specs.Sides.{IsOf, IsDisputedAnswer}
use Rattle.row_answers.proofs.Sieving.{AreDone, next-in}
use Rattle.repair_clauses.specs.Candidates.{AreCandidates}
use Rattle.repair_clauses.proofs.Candidates.{has_length}

module _ (db : List Table) (q : Query) (side : Side) where
  pub next-candidate : (rows answers : List (List Value)) → AreCandidates q db rows → (row : List Value) (left : List (List Value)) → AreDone (IsOf db q side) rows answers (row ∷ left) → IsCandidate db q row
  next-candidate rows answers c row left h = (c.exactly row).0 (next-in (IsOf db q side) rows answers row left h)

-- without answer columns the row without values alone may be certain, or possible
module _ (db : List Table) (q : Query) (fits : FitsDatabase q db) (none : q.answer ≡ []) where
  of-no-values : (row : List Value) → IsCandidate db q row → row ≡ []
  of-no-values row c = nil_from_length row (has_length q db row c ∙ ap length none)

  only : (row : List Value) → IsCertain db q row → row ≡ []
  only row k = of-no-values row (possible_is_candidate.certain db q row fits k)

  alone : (row : List Value) → IsPossible db q row → row ≡ []
  alone row p = of-no-values row ((possible_is_candidate.possible db q row fits).0 p)

  pub lone-certain : (answers : List (List Value)) → IsCertain db q [] → answers ≡ [] ∷ [] → IsCertainAnswer db q answers
  lone-certain answers k is = subst (IsCertainAnswer db q) (sym is) (record {
    ascending = sorted_cons row_cmp [] [] (λ y m. absurd (mem-nil y m)) (sorted-nil row_cmp);
    exactly = λ row. (λ m. elim (mem-cases row [] [] m) [ inl e ↦ subst (IsCertain db q) e k | inr n ↦ absurd (mem-nil row n) ], λ c. subst (Contains ([] ∷ [])) (sym (only row c)) (mem-head [] []));
  })

  pub lone-rejected : (answers : List (List Value)) → (IsCertain db q [] → ⊥) → answers ≡ [] → IsCertainAnswer db q answers
  lone-rejected answers n is = subst (IsCertainAnswer db q) (sym is) (record {
    ascending = sorted-nil row_cmp;
    exactly = λ row. (λ m. absurd (mem-nil row m), λ c. absurd (n (subst (IsCertain db q) (only row c) c)));
  })

  pub none-disputed : (answers : List (List Value)) → IsCertain db q [] → answers ≡ [] → IsDisputedAnswer db q answers
  none-disputed answers k is = subst (IsDisputedAnswer db q) (sym is) (record {
    ascending = sorted-nil row_cmp;
    exactly = λ row. (λ m. absurd (mem-nil row m), λ d. absurd (d.1 (subst (IsCertain db q) (sym (alone row d.0)) k)));
  })

  pub all-disputed : (answers : List (List Value)) → (IsCertain db q [] → ⊥) → IsPossibleAnswer db q answers → IsDisputedAnswer db q answers
  all-disputed answers n possible = record {
    ascending = possible.ascending;
    exactly = λ row. (λ m. let p = (possible.exactly row).0 m in (p, λ k. n (subst (IsCertain db q) (alone row p) k)), λ d. (possible.exactly row).1 d.0);
  }
