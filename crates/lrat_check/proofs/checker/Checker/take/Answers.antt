use Rattle.std.proofs.Common.{[], ◌∷◌, subst, Option, add-one}
use Rattle.lrat_check.specs.declared.fault.LogCause.{LogCause}
use Rattle.lrat_check.specs.Store.{live_of}
use Rattle.lrat_check.specs.Steps.{StepIs}
use Rattle.lrat_check.proofs.Reaching.{as_none, fails_here, fault_stays, passed_more, where_none}
use Rattle.lrat_check.proofs.checker.Checker.take.Goals as goal

pub returns-in_default-clause-reached : goal.returns-in_default-clause-reached
returns-in_default-clause-reached c = λ live top before r. fault_stays live top before (c.args.step.now ∷ []) _ _ _ _ _ c.in_default.field-0 c.in_default.is r

pub returns-in-Some-clause-reached : goal.returns-in-Some-clause-reached
returns-in-Some-clause-reached c = λ live top before r. (
  c.args.self.now.passed,
  add-one c.args.self.now.passed,
  fails_here live top before _ _ c.args.self.now.passed c.args.self.now.seen c.args.step.now c.in-Some.cause (where_none live top before _ _ _ _ _ c.in-None.is r)
      (subst (λ (o : Option LogCause). StepIs (live_of c.args.self.now.store) c.args.self.now.top c.args.step.now (live_of c.take_step.new.store) o) c.in-Some.is c.in_ok-cause.ensures.taken),
)

pub returns-in-None-2-clause-reached : goal.returns-in-None-2-clause-reached
returns-in-None-2-clause-reached c = λ live top before r. as_none live top _ _ _ _ _ _ c.in-None.is
    (passed_more live top before _ _ _ _ c.args.step.now _ _ _ _ (where_none live top before _ _ _ _ _ c.in-None.is r)
    (subst (λ (o : Option LogCause). StepIs (live_of c.args.self.now.store) c.args.self.now.top c.args.step.now (live_of c.take_step.new.store) o) c.in-None-2.is c.in_ok-cause.ensures.taken)
    c.top_of-self.ensures (add-one c.args.self.now.passed) c.saw_empty-self.ensures.kept c.saw_empty-self.ensures.before c.saw_empty-self.ensures.yes c.saw_empty-self.ensures.no)
