-- What the solver's answer to the formula of a row says of the row.
use Rattle.std.specs.Prelude.{ℕ, List}
use Rattle.cqa_value.specs.declared.value.Value.{Value}
use Rattle.cqa_model.specs.declared.query.Query.{Query}
use Rattle.cqa_model.specs.Database.{Table}
use Rattle.cqa_model.specs.Certain.{IsCertain, IsCandidate}
use Rattle.cdcl.specs.declared.outcome.Outcome.{Outcome}
use Rattle.cdcl.specs.declared.outcome.Outcome.TheVariants.{Sat, Unsat, Spent}
use Rattle.cdcl.specs.Outcomes.{OutcomeIs}
use Rattle.list_search.specs.declared.decision.Decided.{Decided}
use Rattle.repair_clauses.specs.Encodings.{IsEncoded}

-- with a model the row isn't certain, with a refutation it is, and a spent log needs a variable, so a witness
abbrev pub SaysOf : Query → List Table → List Value → Outcome → Type 0
SaysOf q db row (Sat values) = IsCertain db q row → ⊥
SaysOf q db row (Unsat log) = IsCertain db q row
SaysOf q db row (Spent log) = IsCandidate db q row

-- the formula is the row's, the outcome is that of its clauses, and so much is known of the row
pub record IsDecided (q : Query) (db : List Table) (row : List Value) (budget : ℕ) (d : Decided) : Type 0 where
  pub formula : IsEncoded q db row d.formula
  pub outcome : OutcomeIs d.formula.cnf budget d.outcome
  pub says : SaysOf q db row d.outcome
