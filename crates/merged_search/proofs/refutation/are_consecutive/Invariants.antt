use Rattle.std.proofs.Common.{◌≡◌, ◌+◌, take}
use Rattle.cnf_form.specs.Logs.{AreConsecutive}
use Rattle.merged_search.proofs.refutation.are_consecutive.Given as goal

abbrev pub invariant-loop-step : goal.invariant-loop-step
invariant-loop-step l = AreConsecutive l.count (take l.step-index l.steps) × (l.last ≡ l.count + l.step-index)
