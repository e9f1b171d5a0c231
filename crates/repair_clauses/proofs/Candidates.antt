-- The rows that are decided are the candidates.
use Rattle.std.proofs.Common.{◌≡◌, ◌↔◌, ◌∙◌, List, length, sym, ap, subst, Contains}
use Rattle.std.proofs.lemmas.List.{length-map}
use Rattle.cqa_value.specs.declared.value.Value.{Value}
use Rattle.cqa_model.specs.declared.query.Query.{Query}
use Rattle.cqa_model.specs.Database.{Table}
use Rattle.cqa_model.specs.Query.{value}
use Rattle.cqa_model.specs.Certain.{IsCandidate, IsPossibleAnswer}
use Rattle.repair_clauses.specs.Candidates.{AreCandidates}

module _ (q : Query) (db : List Table) where
  pub candidates_are : (list rows : List (List Value)) → rows ≡ list → IsPossibleAnswer db q list → ((row : List Value) → Contains list row ↔ IsCandidate db q row) → AreCandidates q db rows
  candidates_are list rows e possible candidates = subst (AreCandidates q db) (sym e) (record { ascending = possible.ascending; exactly = candidates })

  pub has_length : (row : List Value) → IsCandidate db q row → length row ≡ length q.answer
  has_length row c = ap length (sym c.1.answers) ∙ length-map q.answer (value c.0)
