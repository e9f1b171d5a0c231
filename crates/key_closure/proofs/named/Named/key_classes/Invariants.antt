use Rattle.std.proofs.Common.{ℕ, ◌↔◌}
use Rattle.key_closure.specs.Sets.{Has}
use Rattle.key_closure.specs.Members.{IsKeyClass}
use Rattle.key_closure.proofs.named.Named.key_classes.Given as goal

abbrev pub invariant-loop-place : goal.invariant-loop-place
invariant-loop-place l = (k : ℕ) → Has l.set k ↔ IsKeyClass l.self.variables.now l.self.view l.atom l.key l.place-index k
