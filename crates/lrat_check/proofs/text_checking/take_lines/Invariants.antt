use Rattle.std.proofs.Common.{◌≡◌, ◌≤◌, ◌+◌, ℕ, List, [], length}
use Rattle.cnf_form.specs.declared.log.Step.{Step}
use Rattle.cnf_form.specs.Lines.{lines}
use Rattle.cnf_form.specs.Logs.{Live}
use Rattle.lrat_check.specs.LogTexts.{log_of, then_steps}
use Rattle.lrat_check.specs.Reached.{Reached}
use Rattle.lrat_check.proofs.text_checking.take_lines.Given as goal

abbrev pub invariant-loop-rest : goal.invariant-loop-rest
invariant-loop-rest l = record {
  small : l.number + length l.rest ≤ 1 + length l.text;
  count : l.checker.passed + 1 ≤ l.number;
  so_far : (steps : List Step)
      × ((live : Live) (top : ℕ) → Reached live top [] l.fn.checker → Reached live top steps l.checker)
      × (log_of l.vars 1 (lines l.text) ≡ then_steps steps (log_of l.vars l.number (lines l.rest)));
}

abbrev pub decreases-loop-rest : goal.decreases-loop-rest
decreases-loop-rest l = length l.rest
