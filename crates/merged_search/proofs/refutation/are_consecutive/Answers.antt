use Rattle.std.proofs.Common.{ℕ, List, ◌∷◌, [], refl, sym, subst, arith}
use Rattle.std.proofs.lemmas.List.{take_all}
use Rattle.cnf_form.specs.declared.log.Step.{Step}
use Rattle.cnf_form.specs.Logs.{AreConsecutive}
use Rattle.merged_search.proofs.Consecutive.{consecutive_more, consecutive_at}
use Rattle.merged_search.proofs.refutation.are_consecutive.Goals as goal

pub loop-step-preserved : goal.loop-step-preserved
loop-step-preserved c = (
  consecutive_more c.args.count c.loop-step.last c.args.steps.now c.loop-step.step-index c.step-item.result c.loop-step-test.true c.step-item.is c.loop-step.invariant.1
      c.loop-step.invariant.0 c.in-Some.ensures.some.1,
  omega (arith, c.in-Some.ensures.some.0, c.loop-step.invariant.1),
)

pub returns : goal.returns
returns c = (
  λ yes. subst (λ (steps : List Step). AreConsecutive c.args.count steps) (take_all c.loop-step.step-index c.args.steps.now c.loop-step-test.false) c.loop-step.invariant.0,
  λ all. refl,
)

pub returns-in_default : goal.returns-in_default
returns-in_default c = (
  λ no. cc,
  λ all. absurd (c.next_id.ensures.none c.in_default.is
      (subst (λ (n : ℕ). AreConsecutive n (c.step-item.result ∷ [])) (sym c.loop-step.invariant.1)
      (consecutive_at c.args.count c.args.steps.now c.loop-step.step-index c.step-item.result c.loop-step-test.true c.step-item.is all))),
)
