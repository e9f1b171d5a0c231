use Rattle.std.proofs.Common.{ℕ, ◌↔◌}
use Rattle.key_closure.specs.Sets.{Has}
use Rattle.key_closure.specs.Members.{IsVarClass}
use Rattle.key_closure.proofs.named.Named.var_classes.Given as goal

abbrev pub invariant-loop-col : goal.invariant-loop-col
invariant-loop-col l = (k : ℕ) → Has l.set k ↔ IsVarClass l.self.variables.now l.self.view l.atom l.col k
