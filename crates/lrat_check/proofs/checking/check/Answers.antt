use Rattle.std.proofs.Common.{Ok, Err}
use Rattle.cqa_value.specs.declared.memory.Fail.TheVariants.{Refused}
use Rattle.cnf_form.proofs.Sound.{refutation_sound}
use Rattle.lrat_check.proofs.Exact.{only_fault, only_yes}
use Rattle.lrat_check.proofs.checking.check.Goals as goal

pub returns-in-None : goal.returns-in-None
returns-in-None c = let r = rw c.in-None.is at c.in_ok-check_all.ensures in record {
  exact = r;
  only_yes = only_yes c.args.cnf.now c.args.log.now.steps (Ok tt) r;
  only_fault = only_fault c.args.cnf.now c.args.log.now.steps (Ok tt) r;
  sound = refutation_sound c.args.cnf.now c.args.log.now.steps r;
}

pub returns-in-Some : goal.returns-in-Some
returns-in-Some c = let r = rw c.in-Some.is at c.in_ok-check_all.ensures in record {
  exact = r;
  only_yes = only_yes c.args.cnf.now c.args.log.now.steps (Err (Refused c.in-Some.fault)) r;
  only_fault = only_fault c.args.cnf.now c.args.log.now.steps (Err (Refused c.in-Some.fault)) r;
  sound = tt;
}
