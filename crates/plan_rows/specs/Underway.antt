-- How far a plan was gone, and what was decided of the rests of it.
use Rattle.std.specs.Prelude.{◌≡◌, ℕ, pos, ◌<◌, ◌↔◌, IsTrue, Bool, Some, List, [], ◌∷◌, ◌++◌, if◌then◌else◌, length, map, slice_index_or}
use Rattle.std.specs.BTreeMap.{get}
use Rattle.std.proofs.Props.{props}
use Rattle.cqa_value.specs.declared.value.Value.{Value}
use Rattle.cqa_value.specs.declared.value.Value.TheVariants.{Int}
use Rattle.cqa_value.specs.Values.{row_cmp}
use Rattle.cqa_model.specs.Database.{stored}
use Rattle.cqa_model.specs.Plan.{Placed, PlanHolds}
use Rattle.table_blocks.specs.Once.{value_set}
use Rattle.plan_rows.specs.Taking.{taken_value, AreAgreed}
use Rattle.plan_rows.specs.Left.{IsAnswerSettled}
use Rattle.plan_rows.specs.declared.course.Course.{Course}
use Rattle.plan_rows.specs.declared.memo.Memo.{Memo}

-- the atoms of the rows taken, in the order in which they were taken
abbrev pub atoms_of : List Placed → List ℕ
atoms_of [] = []
atoms_of (t ∷ ts) = atoms_of ts ++ t.atom ∷ []

-- rows of the first atoms of an order were taken, and a rest of it is left
pub record IsUnderway (s : Course) (rows : List Placed) (left : List ℕ) : Type 0 where
  pub agreed : AreAgreed s.setting.bound.now.query.now rows
  pub place : s.order.now ≡ atoms_of rows ++ left

-- they were in one way at most
pub underway_once : (s : Course) (rows : List Placed) (left : List ℕ) → IsProp (IsUnderway s rows left)
underway_once s rows left = hlevel (value_set, props)

-- by what it is found again whether a rest of a plan holds: its length, the values of the rows taken that it shares, and
-- the candidate unless no answer column is of its atoms
pub record IsMemoKey (s : Course) (taken : List Placed) (plan : List ℕ) (row key : List Value) : Type 0 where
  pub settled : Bool
  pub says : IsTrue settled ↔ IsAnswerSettled s.setting.bound.now.query.now plan
  pub there : length taken < length s.shared.now
  pub is : key ≡ Int (pos (length plan)) ∷ map (taken_value taken) (slice_index_or s.shared.now (length taken) []) ++ (if settled then [] else row)

-- what was decided under a key is so for each rest, rows taken and candidate of that key
abbrev pub IsRemembered : Course → List Value → Bool → Type 0
IsRemembered s key held = (taken : List Placed) (plan : List ℕ) (row : List Value) → IsUnderway s taken plan → IsMemoKey s taken plan row key → IsTrue held ↔ PlanHolds s.setting.bound.now.query.now (stored s.setting.bound.now.db.now) row taken plan

-- all that is remembered was decided
abbrev pub IsRight : Course → Memo → Type 0
IsRight s memo = (key : List Value) (held : Bool) → get row_cmp memo.known key ≡ Some held → IsRemembered s key held
