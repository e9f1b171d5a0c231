use Rattle.std.proofs.Common.{◌≡◌, ℕ, take}
use Rattle.cnf_form.specs.Literals.{literals}
use Rattle.cnf_form.specs.Logs.{numbered}
use Rattle.lrat_check.specs.Store.{live_of}
use Rattle.lrat_check.proofs.checker.load.Given as goal

abbrev pub invariant-loop-index : goal.invariant-loop-index
invariant-loop-index l = (k : ℕ) → live_of l.store k ≡ numbered (literals (take l.index l.clauses)) k
