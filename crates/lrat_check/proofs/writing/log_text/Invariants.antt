use Rattle.std.proofs.Common.{◌≡◌, ◌++◌, drop}
use Rattle.lrat_check.specs.Writing.{log_bytes, log_lines}
use Rattle.lrat_check.proofs.writing.log_text.Given as goal

abbrev pub invariant-loop-step : goal.invariant-loop-step
invariant-loop-step l = l.text.items ++ log_lines l.used (drop l.step-index l.step-items) ≡ log_bytes l.step-items
