-- By what the candidates of a union are decided, and what is found out of one.
use Rattle.std.specs.Prelude.{◌≡◌, ℕ, List, length}
use Rattle.cqa_value.specs.declared.value.Value.{Value}
use Rattle.cqa_model.specs.declared.query.Query.{Query}
use Rattle.cqa_model.specs.declared.query.RowId.{RowId}
use Rattle.cqa_model.specs.Database.{Table}
use Rattle.cqa_model.specs.Unions.{IsCertainIn, IsCandidateIn}
use Rattle.cnf_form.specs.declared.formula.Cnf.{Cnf}
use Rattle.cnf_form.specs.declared.log.Log.{Log}
use Rattle.cnf_form.specs.Spent.{IsSpentLog}
use Rattle.list_search.specs.declared.judging.Judged.{Judged}
use Rattle.list_search.specs.declared.judging.Judged.TheVariants as judged
use Rattle.list_search.specs.declared.scope.Scope.{Scope}
use Rattle.list_search.specs.Scopes.{columns_of}
use Rattle.part_search.specs.declared.judging.Verdict.{Verdict}
use Rattle.part_search.specs.declared.judging.Verdict.TheVariants as verdict
use Rattle.part_search.specs.Parts.{HaveSpoken, HasTooManyIn, IsFrameFor}
use Rattle.part_search.specs.Encodings.{IsEncodedOver}

-- a frame for the parts, with the columns that some part speaks of
pub record IsScopeOf (db : List Table) (parts : List Query) (scope : Scope) : Type 0 where
  pub wide : length scope.frame.slots ≡ length db
  pub frame : IsFrameFor db parts scope.frame.tables
  pub spoken : HaveSpoken parts (columns_of scope)

-- the verdict on a row whose lists are judged
abbrev pub Tells : Judged → Verdict → Type 0
Tells judged.Forced v = v ≡ verdict.Certain
Tells judged.Avoided v = v ≡ verdict.Rejected
Tells (judged.Spent cnf log) v = v ≡ verdict.Spent cnf log

-- the row is a candidate, and its formula over a frame has a spent log for the budget
pub record IsSpentOver (db : List Table) (frame : List ℕ) (parts : List Query) (budget : ℕ) (row : List Value) (cnf : Cnf) (log : Log) : Type 0 where
  pub candidate : IsCandidateIn db parts row
  pub rows : List RowId
  pub formula : IsEncodedOver db frame parts row (record { cnf = cnf; rows = rows })
  pub spent : IsSpentLog cnf budget log.steps

-- what is found out of a row
abbrev pub IsVerdictOver : List Table → List ℕ → List Query → List Value → ℕ → Verdict → Type 0
IsVerdictOver db frame parts row budget verdict.Certain = IsCertainIn db parts row × (HasTooManyIn parts db row → ⊥)
IsVerdictOver db frame parts row budget verdict.Rejected = (IsCertainIn db parts row → ⊥) × (HasTooManyIn parts db row → ⊥)
IsVerdictOver db frame parts row budget verdict.Over = HasTooManyIn parts db row
IsVerdictOver db frame parts row budget (verdict.Spent cnf log) = IsSpentOver db frame parts budget row cnf log × (HasTooManyIn parts db row → ⊥)
