-- The refusal of the row at which a search for all rows stopped.
use Rattle.cqa_value.specs.declared.memory.Fail.TheVariants as fails
use Rattle.refusals.specs.declared.refusal.Refusal.{Refusal}
use Rattle.repair_back.specs.declared.reason.Untold.TheVariants.{Over, Spent}
use Rattle.part_search.specs.declared.searched.Stop.{Stop}
use Rattle.part_search.specs.declared.searched.Stop.TheVariants as stops
use Rattle.session_state.specs.State.{State}
use Rattle.session_state.specs.Untold.{RefusesRow}

-- It is refused as a row of which nothing is told: by its witnesses, or by the budget, and then its formula is kept.
abbrev pub RefusesStop : State → Stop → Refusal → State → Type 0
RefusesStop old (stops.Over row) refusal new = RefusesRow old row Over (fails.Refused refusal) new
RefusesStop old (stops.Spent row cnf log) refusal new = RefusesRow old row (Spent cnf log) (fails.Refused refusal) new
