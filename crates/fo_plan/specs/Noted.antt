-- What is noted while a plan is gone over for all its rows.
use Rattle.std.specs.Prelude.{◌≡◌, ℕ, ◌<◌, ◌≤◌, List, [], IfSome, length, slice_index_or}
use Rattle.cqa_value.specs.declared.value.Value.{Value}
use Rattle.cqa_model.specs.Database.{stored}
use Rattle.cqa_model.specs.Plan.{Placed}
use Rattle.plan_rows.specs.Underway.{IsUnderway, IsRight}
use Rattle.plan_rows.specs.declared.course.Course.{Course}
use Rattle.fo_plan.specs.Giving.{PlanGives}
use Rattle.fo_plan.specs.declared.notes.Notes.{Notes}

-- no column of the rows taken is of a variable of the atoms that are left
abbrev pub StandsApart : Course → List Placed → Type 0
StandsApart s taken = (length taken < length s.shared.now) × (slice_index_or s.shared.now (length taken) [] ≡ [])

-- no row is given where so many atoms are left, or more, whatever rows are taken
abbrev pub GivesNone : Course → ℕ → Type 0
GivesNone s least = (taken : List Placed) (plan : List ℕ) (row : List Value) → IsUnderway s taken plan → least ≤ length plan → PlanGives s.setting.bound.now.query.now (stored s.setting.bound.now.db.now) taken plan row → ⊥

-- all that is noted is so
pub record AreRight (s : Course) (notes : Notes) : Type 0 where
  pub memo : IsRight s notes.memo
  pub barren : IfSome notes.barren (GivesNone s)
