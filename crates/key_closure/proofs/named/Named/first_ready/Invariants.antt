use Rattle.std.proofs.Common.{ℕ, ◌<◌}
use Rattle.key_closure.specs.Members.{IsAmong, IsReady}
use Rattle.key_closure.proofs.named.Named.first_ready.Given as goal

abbrev pub invariant-loop-atom : goal.invariant-loop-atom
invariant-loop-atom l = (K : ℕ) → K < l.atom → IsAmong l.self.query.now l.waiting K → IsReady l.self.query.now l.self.view l.set K → ⊥
