-- What is found out of the lists of a row is found out of the row.
use Rattle.std.proofs.Common.{ℕ, ◌<◌, List, [], length, get_or, sym, subst}
use Rattle.std.proofs.lemmas.List.Elements.{Contains-get_or}
use Rattle.cqa_value.specs.declared.value.Value.{Value}
use Rattle.cqa_model.specs.declared.query.Query.{Query}
use Rattle.cqa_model.specs.declared.query.RowId.{RowId}
use Rattle.cqa_model.specs.Database.{Table}
use Rattle.cqa_model.specs.Unions.{IsCandidateIn}
use Rattle.list_search.specs.declared.judging.Judged.{Judged}
use Rattle.list_search.specs.declared.judging.Judged.TheVariants as judged
use Rattle.list_search.specs.Judging.{IsJudged}
use Rattle.part_search.specs.declared.judging.Verdict.{Verdict}
use Rattle.part_search.specs.Parts.{AllFit, AreNamesIn, HasTooManyIn}
use Rattle.part_search.specs.Judging.{IsVerdictOver, Tells}
use Rattle.part_search.proofs.Forced.{names_of_parts, certain_is_forced}

module _ (db : List Table) (parts : List Query) (row : List Value) (all : List (List RowId)) (h : AreNamesIn parts db row all) where
  -- a row with a list has a witness
  pub candidate-of : 0 < length all → IsCandidateIn db parts row
  candidate-of l = let s = (names_of_parts db parts row all h (get_or all 0 [])).0 (Contains-get_or all 0 [] l) in (s.0, s.1, (s.2.0, s.2.1))

  pub verdict-of : AllFit parts db → (HasTooManyIn parts db row → ⊥) → (tables : List ℕ) (budget : ℕ) (j : Judged) (v : Verdict) → IsJudged db tables all budget j → Tells j v → IsVerdictOver db tables parts row budget v
  verdict-of fits few tables budget judged.Forced v k e =
      subst (IsVerdictOver db tables parts row budget) (sym e) ((certain_is_forced db parts row all fits h).1 k, few)
  verdict-of fits few tables budget judged.Avoided v k e =
      subst (IsVerdictOver db tables parts row budget) (sym e) (λ c. k ((certain_is_forced db parts row all fits h).0 c), few)
  verdict-of fits few tables budget (judged.Spent cnf log) v k e =
      subst (IsVerdictOver db tables parts row budget) (sym e)
      (record { candidate = candidate-of k.some; rows = k.rows; formula = record { lists = all; are_lists = h; encoded = k.formula }; spent = k.spent }, few)
