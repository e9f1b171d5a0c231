-- The refusal of a row of which nothing is told.
use Rattle.std.specs.Prelude.{◌≡◌, List, Some}
use Rattle.cqa_value.specs.declared.memory.Fail.{Fail}
use Rattle.cqa_value.specs.declared.memory.Fail.TheVariants as fails
use Rattle.cqa_value.specs.declared.value.Value.{Value}
use Rattle.refusals.specs.declared.refusal.Refusal.{Refusal}
use Rattle.refusals.specs.declared.refusal.Refusal.TheVariants as refusals
use Rattle.repair_back.specs.declared.reason.Untold.{Untold}
use Rattle.repair_back.specs.declared.reason.Untold.TheVariants.{Over, Spent}
use Rattle.session_state.specs.State.{State}

-- The refusal says what keeps the row from being told. Where that is a spent budget, the row's formula is kept with the
-- spent log, as the last log. Want of memory changes nothing.
abbrev pub RefusesRow : State → List Value → Untold → Fail Refusal → State → Type 0
RefusesRow old row stop fails.NoMemory new = new ≡ old
RefusesRow old row Over (fails.Refused refusal) new = (refusal ≡ refusals.WitnessLimit row) × (new ≡ old)
RefusesRow old row (Spent cnf log) (fails.Refused refusal) new = (refusal ≡ refusals.Spent row old.budget) × (new ≡ record old { last_log = Some (record { cnf = cnf; log = log }) })
