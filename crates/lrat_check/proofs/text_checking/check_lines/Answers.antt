use Rattle.std.proofs.Common.{[], length, subst, List}
use Rattle.cnf_form.specs.declared.formula.Clause.{Clause}
use Rattle.cnf_form.specs.Literals.{literals}
use Rattle.cnf_form.specs.Logs.{numbered}
use Rattle.lrat_check.specs.Reached.{Reached}
use Rattle.lrat_check.proofs.LogLines.{line_checked, run_checked}
use Rattle.lrat_check.proofs.text_checking.check_lines.Goals as goal

pub returns-in-None : goal.returns-in-None
returns-in-None c =
    let all = rw c.in-None.is at c.in_ok-taken.ensures in
    run_checked c.args.cnf.now all.0 _ c.end-end.result all.1
    (c.end-end.ensures _ _ _ (all.2 _ _
    (subst (λ (cs : List Clause). Reached (numbered (literals cs)) (length cs) [] c.in_ok-checker.checker) c.as_slice.ensures c.in_ok-checker.ensures.reached)))

pub returns-in-Some : goal.returns-in-Some
returns-in-Some c = line_checked c.args.cnf.now _ c.in-Some.line _ (rw c.in-Some.is at c.in_ok-taken.ensures) c.line_fault.ensures
