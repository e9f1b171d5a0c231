-- The answers of a query are lists: whether a row is one is decided, and some choice of rows gives it.
use Rattle.std.proofs.Common.{◌↔◌, inl, inr, List, [], length, map, subst, Contains}
use Rattle.std.specs.List.Sorted.{IsStrictlySortedBy}
use Rattle.cqa_value.specs.declared.value.Value.{Value}
use Rattle.cqa_value.specs.Values.{row_cmp, row_cmp_total}
use Rattle.cqa_value.proofs.Words.{Contains-map}
use Rattle.cqa_model.specs.declared.query.Query.{Query}
use Rattle.cqa_model.specs.Database.{Table, stored}
use Rattle.cqa_model.specs.Query.{rows_of, value, FitsDatabase}
use Rattle.cqa_model.specs.Certain.{IsCertain, IsPossible, IsCandidate}
use Rattle.cqa_model.proofs.BlockOrder.{row_exact}
use Rattle.cqa_model.proofs.Databases.{certain_or_rejected, possible_is_candidate}
use Rattle.cqa_model.proofs.Values.{dec_by}
use Rattle.cqa_model.proofs.Witnesses.{dec_witness}
use Rattle.existence_law.specs.Answers.{AnswersExist, RowsAreDecided}
use Rattle.existence_law.proofs.Choices.{choices, choices-all}
use Rattle.join_witness.proofs.Sorting.{decided_list}

pub dec_certain : (db : List Table) (q : Query) (row : List Value) → Dec (IsCertain db q row)
dec_certain db q row = elim (certain_or_rejected db q row) [
  | inl c ↦ yes c
  | inr r ↦ no (λ c. let w = c r.0 r.1 in r.2 w.0 w.1)
]

-- a candidate has a value for each column of the answer
module _ (db : List Table) (q : Query) (fits : FitsDatabase q db) where
  chosen : List (List (List Value))
  chosen = choices (length q.atoms) (λ F. rows_of q (stored db) F)

  candidate_given : (row : List Value) → IsCandidate db q row → Contains (map (λ w. map (value w) q.answer) chosen) row
  unfolding chosen
  candidate_given row c = subst (Contains (map (λ w. map (value w) q.answer) chosen)) c.1.answers
      (Contains-map (λ w. map (value w) q.answer) chosen c.0 (choices-all [] (length q.atoms) (λ F. rows_of q (stored db) F) c.0 c.1.size c.1.kept))

  dec_possible : (row : List Value) → Dec (IsPossible db q row)
  dec_possible row = let same = possible_is_candidate.possible db q row fits in dec_by same.1 same.0 (dec_witness q (stored db) row)

  pub candidate_list : (rows : List (List Value)) × (IsStrictlySortedBy row_cmp rows × ((row : List Value) → Contains rows row ↔ IsCandidate db q row))
  candidate_list = decided_list row_cmp row_cmp_total (IsCandidate db q) (λ row. dec_witness q (stored db) row) (λ x y p r e. row_exact x y e) (map (λ w. map (value w) q.answer) chosen) candidate_given

  certain_list : (rows : List (List Value)) × (IsStrictlySortedBy row_cmp rows × ((row : List Value) → Contains rows row ↔ IsCertain db q row))
  certain_list = decided_list row_cmp row_cmp_total (IsCertain db q) (dec_certain db q) (λ x y p r e. row_exact x y e)
      (map (λ w. map (value w) q.answer) chosen) (λ row c. candidate_given row (possible_is_candidate.certain db q row fits c))

  possible_list : (rows : List (List Value)) × (IsStrictlySortedBy row_cmp rows × ((row : List Value) → Contains rows row ↔ IsPossible db q row))
  possible_list = decided_list row_cmp row_cmp_total (IsPossible db q) dec_possible (λ x y p r e. row_exact x y e)
      (map (λ w. map (value w) q.answer) chosen) (λ row p. candidate_given row ((possible_is_candidate.possible db q row fits).0 p))

pub answers_exist : AnswersExist
answers_exist = record {
  certain = λ db q fits. let l = certain_list db q fits in (l.0, record { ascending = l.1.0; exactly = l.1.1 });
  possible = λ db q fits. let l = possible_list db q fits in (l.0, record { ascending = l.1.0; exactly = l.1.1 });
}

pub rows_are_decided : RowsAreDecided
rows_are_decided = record {
  certain = λ db q row. elim (dec_certain db q row) [ yes c ↦ inl c | no f ↦ inr f ];
  candidate = λ db q row. elim (dec_witness q (stored db) row) [ yes c ↦ inl c | no f ↦ inr f ];
}
