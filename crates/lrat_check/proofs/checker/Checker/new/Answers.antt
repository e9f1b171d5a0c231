use Rattle.std.proofs.Common.{refl, arith}
use Rattle.lrat_check.proofs.checker.Checker.new.Goals as goal

pub returns-clause-reached : goal.returns-clause-reached
returns-clause-reached c = record { passes = tt; live_is = c.in_ok-load.ensures; top_is = refl; count = refl; yes = λ e. cc; no = λ e k. absurd (omega (arith, k.1)) }
