-- What is found out of lists: whether every repair keeps one of them whole, and if that takes too long, why.
use Rattle.std.specs.Prelude.{◌≡◌, ℕ, ◌<◌, List, length}
use Rattle.cqa_model.specs.declared.query.RowId.{RowId}
use Rattle.cqa_model.specs.Database.{Table}
use Rattle.cnf_form.specs.declared.formula.Cnf.{Cnf}
use Rattle.cnf_form.specs.declared.log.Log.{Log}
use Rattle.cnf_form.specs.Spent.{IsSpentLog}
use Rattle.cdcl.specs.declared.outcome.Outcome.{Outcome}
use Rattle.cdcl.specs.declared.outcome.Outcome.TheVariants as outcome
use Rattle.row_lists.specs.declared.formula.Encoded.{Encoded}
use Rattle.row_lists.specs.Lists.{IsForced}
use Rattle.row_lists.specs.Encodings.{IsListEncoded}
use Rattle.list_search.specs.declared.judging.Judged.{Judged}
use Rattle.list_search.specs.declared.judging.Judged.TheVariants.{Forced, Avoided, Spent}

-- with a model some repair keeps no list whole, with a refutation each keeps one; a spent log needs a variable, so a list
abbrev pub SaysOf : List Table → List (List RowId) → Outcome → Type 0
SaysOf db lists (outcome.Sat values) = IsForced db lists → ⊥
SaysOf db lists (outcome.Unsat log) = IsForced db lists
SaysOf db lists (outcome.Spent log) = 0 < length lists

-- there is a list, and the formula of the lists has a spent log for the budget
pub record IsSpentFor (db : List Table) (frame : List ℕ) (lists : List (List RowId)) (budget : ℕ) (cnf : Cnf) (log : Log) : Type 0 where
  pub some : 0 < length lists
  pub rows : List RowId
  pub formula : IsListEncoded db frame lists (record { cnf = cnf; rows = rows })
  pub spent : IsSpentLog cnf budget log.steps

-- what is found out of lists
abbrev pub IsJudged : List Table → List ℕ → List (List RowId) → ℕ → Judged → Type 0
IsJudged db frame lists budget Forced = IsForced db lists
IsJudged db frame lists budget Avoided = IsForced db lists → ⊥
IsJudged db frame lists budget (Spent cnf log) = IsSpentFor db frame lists budget cnf log

-- what an outcome finds out of the lists of a formula
abbrev pub Judges : Encoded → Outcome → Judged → Type 0
Judges formula (outcome.Sat values) j = j ≡ Avoided
Judges formula (outcome.Unsat log) j = j ≡ Forced
Judges formula (outcome.Spent log) j = j ≡ Spent formula.cnf log
