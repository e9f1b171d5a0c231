use Rattle.std.proofs.Common.{◌∙◌, List, arith, subst}
use Rattle.std.proofs.lemmas.List.{take_all}
use Rattle.cnf_form.specs.declared.log.Step.{Step}
use Rattle.cnf_form.specs.Literals.{literals}
use Rattle.cnf_form.specs.Logs.{numbered}
use Rattle.std.proofs.Common.{length}
use Rattle.lrat_check.specs.Reached.{Reached}
use Rattle.lrat_check.proofs.Reaching.{reached_more}
use Rattle.lrat_check.proofs.checking.check_all.Goals as goal

pub loop-step-preserved : goal.loop-step-preserved
loop-step-preserved c = record {
  count = let k = c.loop-step.invariant.count in let m = c.in_ok-take.ensures.count in omega (arith, k, m);
  reached = reached_more _ _ c.as_slice-step-items.result.now c.loop-step.step-index c.step-item.result c.take.new.self c.loop-step-test.true c.step-item.is
      (c.in_ok-take.ensures.reached _ _ _ c.loop-step.invariant.reached);
}

pub returns : goal.returns
returns c = c.end.ensures _ _ _
    (subst (λ (xs : List Step). Reached (numbered (literals c.args.cnf.now.clauses)) (length c.args.cnf.now.clauses) xs c.loop-step.checker)
    (take_all c.loop-step.step-index c.as_slice-step-items.result.now c.loop-step-test.false ∙ c.as_slice-step-items.ensures) c.loop-step.invariant.reached)
