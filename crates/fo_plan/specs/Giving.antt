-- What a plan holds for, read as a set of rows.
use Rattle.std.specs.Prelude.{◌≡◌, ◌⊎◌, ◌↔◌, ℕ, ◌<◌, List, ◌∷◌, length, Contains}
use Rattle.cqa_value.specs.declared.value.Value.{Value}
use Rattle.cqa_model.specs.declared.query.Query.{Query}
use Rattle.cqa_model.specs.Database.{stored}
use Rattle.cqa_model.specs.Plan.{Placed, PlanHolds}
use Rattle.plan_rows.specs.Taking.{placed}
use Rattle.plan_rows.specs.Fitting.{GivesCandidate}
use Rattle.plan_rows.specs.Over.{query_of, stored_rows, rows_before}
use Rattle.plan_rows.specs.declared.steps.Rest.{Rest}
use Rattle.plan_rows.specs.declared.steps.Step.{Step}
use Rattle.fo_plan.specs.Holding.{AllHold}

-- each atom is in the plan, or a row of it was taken
abbrev pub AreAllAtoms : Query → List Placed → List ℕ → Type 0
AreAllAtoms q taken plan = (F : ℕ) → F < length q.atoms → Contains plan F ⊎ ((t : Placed) × Contains taken t × (t.atom ≡ F))

-- a row has the values of the rows taken in their answer columns
abbrev pub HasAnswers : Query → List Placed → List Value → Type 0
HasAnswers q taken row = (t : Placed) → Contains taken t → GivesCandidate q t.atom t.row row

-- a row of the answer's length that has them
abbrev pub IsAnswerRow : Query → List Placed → List Value → Type 0
IsAnswerRow q taken row = (length row ≡ length q.answer) × HasAnswers q taken row

-- the rows taken and the rest of the plan give a row
abbrev pub PlanGives : Query → List (List (List Value)) → List Placed → List ℕ → List Value → Type 0
PlanGives q tables taken plan row = IsAnswerRow q taken row × PlanHolds q tables row taken plan

-- a block of F gives it
abbrev pub BlockGives : Query → List (List (List Value)) → List Placed → ℕ → List ℕ → List (List Value) → List Value → Type 0
BlockGives q tables taken F plan block row = IsAnswerRow q taken row × AllHold q tables row taken F plan block

-- the rows with the property have come
abbrev pub IsAdded : (List Value → Type 0) → List (List Value) → List (List Value) → Type 0
IsAdded P old new = (row : List Value) → Contains new row ↔ (Contains old row ⊎ P row)

-- each atom is in a rest of a plan, or a row of it was taken
abbrev pub RestHasAll : Rest → Type 0
RestHasAll r = AreAllAtoms r.course.now.setting.bound.now.query.now (placed r.taken.now) r.plan.now

-- each atom comes next or is in the rest behind, or a row of it was taken
abbrev pub StepHasAll : Step → Type 0
StepHasAll s = AreAllAtoms (query_of s) (rows_before s) (s.atom ∷ s.rest.now)

-- a rest of a plan gives a row, with the rows taken
abbrev pub RestGives : Rest → List Value → Type 0
RestGives r row = PlanGives r.course.now.setting.bound.now.query.now (stored r.course.now.setting.bound.now.db.now) (placed r.taken.now) r.plan.now row

-- the next atom and the rest behind it give a row, with the rows taken
abbrev pub StepGives : Step → List Value → Type 0
StepGives s row = PlanGives (query_of s) (stored_rows s) (rows_before s) (s.atom ∷ s.rest.now) row
