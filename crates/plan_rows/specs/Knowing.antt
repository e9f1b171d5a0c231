-- What is known of a row that fits, before it is looked for.
use Rattle.std.specs.Prelude.{ℕ, Option, Some, None, List}
use Rattle.cqa_value.specs.declared.value.Value.{Value}
use Rattle.cqa_model.specs.declared.query.Query.{Query}
use Rattle.cqa_model.specs.Plan.{Placed, Fits}
use Rattle.plan_rows.specs.Fitting.{Suits}

-- a row fits the rows taken, and the candidate where one is given
abbrev pub MayFit : Query → Option (List Value) → List Placed → ℕ → List Value → Type 0
MayFit q None taken F y = Suits q taken F y
MayFit q (Some row) taken F y = Fits q row taken F y
