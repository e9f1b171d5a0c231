use Rattle.std.proofs.Common.{◌≡◌, ◌≤◌, ◌+◌, length}
use Rattle.cnf_form.specs.Lines.{lines}
use Rattle.lrat_check.specs.LogTexts.{log_of, then_steps}
use Rattle.lrat_check.proofs.reading.read_steps.Given as goal

abbrev pub invariant-loop-rest : goal.invariant-loop-rest
invariant-loop-rest l = record {
  small : l.number + length l.rest ≤ 1 + length l.bytes;
  so_far : log_of l.vars 1 (lines l.bytes) ≡ then_steps l.steps.items (log_of l.vars l.number (lines l.rest));
}

abbrev pub decreases-loop-rest : goal.decreases-loop-rest
decreases-loop-rest l = length l.rest
