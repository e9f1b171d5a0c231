-- What it is that a plan holds, atom by atom.
use Rattle.std.specs.Prelude.{ℕ, List, Contains}
use Rattle.cqa_value.specs.declared.value.Value.{Value}
use Rattle.cqa_model.specs.declared.query.Query.{Query}
use Rattle.cqa_model.specs.Database.{stored}
use Rattle.cqa_model.specs.Plan.{Placed, PlanHolds}
use Rattle.plan_rows.specs.Links.{RowHolds}
use Rattle.plan_rows.specs.Taking.{placed}
use Rattle.plan_rows.specs.Over.{query_of, stored_rows, rows_before}
use Rattle.plan_rows.specs.declared.steps.Rest.{Rest}
use Rattle.plan_rows.specs.declared.steps.Step.{Step}

-- with each of these rows of F the plan holds
abbrev pub AllHold : Query → List (List (List Value)) → List Value → List Placed → ℕ → List ℕ → List (List Value) → Type 0
AllHold q tables row taken F plan block = (y : List Value) → Contains block y → RowHolds q tables row taken F plan y

-- a rest of a plan holds for a candidate
abbrev pub PlanRestHolds : Rest → List Value → Type 0
PlanRestHolds r row = PlanHolds r.course.now.setting.bound.now.query.now (stored r.course.now.setting.bound.now.db.now) row (placed r.taken.now) r.plan.now

-- a row of the next atom fits, and the rest of the plan holds once it is taken
abbrev pub PlanHoldsWith : Step → List Value → List Value → Type 0
PlanHoldsWith s row y = RowHolds (query_of s) (stored_rows s) row (rows_before s) s.atom s.rest.now y

-- so it is of each row of a block
abbrev pub AllHoldWith : Step → List Value → List (List Value) → Type 0
AllHoldWith s row block = AllHold (query_of s) (stored_rows s) row (rows_before s) s.atom s.rest.now block
