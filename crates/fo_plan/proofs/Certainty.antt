-- The rows for which an exact order holds are the certain ones.
use Rattle.std.proofs.Common.{◌≡◌, ◌↔◌, ℕ, List, length, Contains, Result, Ok, Err, IfOk, sym, ap, ◌∙◌}
use Rattle.std.specs.List.Sorted.{IsStrictlySortedBy}
use Rattle.std.proofs.lemmas.List.{length-map}
use Rattle.cqa_value.specs.declared.memory.NoMemory.{NoMemory}
use Rattle.cqa_value.specs.declared.value.Value.{Value}
use Rattle.cqa_value.specs.Values.{row_cmp}
use Rattle.cqa_model.specs.declared.query.Query.{Query}
use Rattle.cqa_model.specs.Database.{Table}
use Rattle.cqa_model.specs.Query.{value, FitsDatabase}
use Rattle.cqa_model.specs.Certain.{IsCandidate, IsCertainAnswer}
use Rattle.cqa_model.specs.Plan.{HoldsOver, IsExact}
use Rattle.cqa_model.proofs.Databases.{possible_is_candidate}

-- a candidate has the answer's length
pub candidate-length : (db : List Table) (q : Query) (row : List Value) → IsCandidate db q row → length row ≡ length q.answer
candidate-length db q row (w, is) = ap length (sym is.answers) ∙ length-map q.answer (value w)

certain-answer : (db : List Table) (q : Query) (plan : List ℕ) (answers : List (List Value)) → FitsDatabase q db → IsExact q plan → IsStrictlySortedBy row_cmp answers →
    ((row : List Value) → Contains answers row ↔ ((length row ≡ length q.answer) × HoldsOver db q row plan)) → IsCertainAnswer db q answers
certain-answer db q plan answers fits exact ascending holds = record {
  ascending = ascending;
  exactly = λ row. (
    (λ m. let h = (holds row).0 m in (exact db row fits h.0).0 h.1),
    (λ certain.
        let long = candidate-length db q row (possible_is_candidate.certain db q row fits certain) in
        (holds row).1 (long, (exact db row fits long).1 certain)),
  );
}

-- the same of a result
pub certain-result : (db : List Table) (q : Query) (plan : List ℕ) (r : Result (List (List Value)) NoMemory) → FitsDatabase q db → IsExact q plan → IfOk r (IsStrictlySortedBy row_cmp) →
    IfOk r (λ answers. (row : List Value) → Contains answers row ↔ ((length row ≡ length q.answer) × HoldsOver db q row plan)) → IfOk r (IsCertainAnswer db q)
certain-result db q plan (Ok answers) fits exact ascending holds = certain-answer db q plan answers fits exact ascending holds
certain-result db q plan (Err e) fits exact ascending holds = tt
