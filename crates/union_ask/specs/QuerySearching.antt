-- The rows of a side of a query, found candidate by candidate, ascending.
use Rattle.std.specs.Prelude.{◌≡◌, ℕ, List}
use Rattle.std.specs.declared.cmp.Ordering.TheVariants.{Less}
use Rattle.cqa_value.specs.declared.value.Value.{Value}
use Rattle.cqa_value.specs.Values.{row_cmp}
use Rattle.cqa_model.specs.declared.query.Query.{Query}
use Rattle.cqa_model.specs.declared.query.RowId.{RowId}
use Rattle.cqa_model.specs.Database.{Table}
use Rattle.cqa_model.specs.Certain.{IsCandidate}
use Rattle.cnf_form.specs.declared.formula.Cnf.{Cnf}
use Rattle.cnf_form.specs.declared.log.Log.{Log}
use Rattle.cnf_form.specs.Spent.{IsSpentLog}
use Rattle.join_access.specs.Listing.{HasTooMany}
use Rattle.row_answers.specs.declared.side.Side.{Side}
use Rattle.row_answers.specs.Sides.{IsAnswerOf}
use Rattle.part_search.specs.declared.searched.Stop.{Stop}
use Rattle.part_search.specs.declared.searched.Stop.TheVariants as stop
use Rattle.part_search.specs.declared.searched.Searched.{Searched}
use Rattle.part_search.specs.declared.searched.Searched.TheVariants.{All, Stopped}
use Rattle.repair_clauses.specs.Encodings.{IsEncoded}

-- the row is a candidate, and its formula has a spent log for the budget
pub record IsSpentFor (q : Query) (db : List Table) (budget : ℕ) (row : List Value) (cnf : Cnf) (log : Log) : Type 0 where
  pub candidate : IsCandidate db q row
  pub rows : List RowId
  pub formula : IsEncoded q db row (record { cnf = cnf; rows = rows })
  pub spent : IsSpentLog cnf budget log.steps

-- no candidate before a row has too many witnesses
abbrev pub NoneBefore : Query → List Table → List Value → Type 0
NoneBefore q db row = (other : List Value) → IsCandidate db q other → row_cmp other row ≡ Less → HasTooMany q db other → ⊥

-- a search stops at the first candidate with too many witnesses, or before it where the budget is used up
abbrev pub IsStop : Query → List Table → ℕ → Stop → Type 0
IsStop q db budget (stop.Over row) = IsCandidate db q row × HasTooMany q db row × NoneBefore q db row
IsStop q db budget (stop.Spent row cnf log) = IsSpentFor q db budget row cnf log × (HasTooMany q db row → ⊥) × NoneBefore q db row

-- the rows of the side, where no candidate has too many witnesses; or the search stopped
abbrev pub IsSearched : Query → List Table → Side → ℕ → Searched → Type 0
IsSearched q db side budget (All answers) = IsAnswerOf db q side answers × ((row : List Value) → IsCandidate db q row → HasTooMany q db row → ⊥)
IsSearched q db side budget (Stopped why) = IsStop q db budget why
