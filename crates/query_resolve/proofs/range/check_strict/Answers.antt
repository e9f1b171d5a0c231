use Rattle.std.proofs.Common.{refl}
use Rattle.query_resolve.proofs.Members.{passed_more, passed_stopped, passed_all}
use Rattle.query_resolve.proofs.range.check_strict.Goals as goal

pub loop-at-init : goal.loop-at-init
loop-at-init c = record { fault = refl }

pub loop-at-preserved : goal.loop-at-preserved
loop-at-preserved c = passed_more c.loop-at.invariant c.loop-at-test.true c.index-names-at.is c.in_ok-check_beside.ensures.valid

pub returns-in_err-check_beside : goal.returns-in_err-check_beside
returns-in_err-check_beside c = passed_stopped _ c.loop-at.invariant c.loop-at-test.true c.index-names-at.is c.in_err-check_beside.ensures.refused c.from_residual.ensures.1

pub returns : goal.returns
returns c = record { refused = tt; valid = passed_all c.loop-at.invariant c.loop-at-test.false; is = tt }
