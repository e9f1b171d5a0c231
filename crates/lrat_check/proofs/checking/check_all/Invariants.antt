use Rattle.std.proofs.Common.{◌≤◌, length, take}
use Rattle.cnf_form.specs.Literals.{literals}
use Rattle.cnf_form.specs.Logs.{numbered}
use Rattle.lrat_check.specs.Reached.{Reached}
use Rattle.lrat_check.proofs.checking.check_all.Given as goal

abbrev pub invariant-loop-step : goal.invariant-loop-step
invariant-loop-step l = record {
  count : l.checker.passed ≤ l.step-index;
  reached : Reached (numbered (literals l.cnf.clauses)) (length l.cnf.clauses) (take l.step-index l.step-items) l.checker;
}
