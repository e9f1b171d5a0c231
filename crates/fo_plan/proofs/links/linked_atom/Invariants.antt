use Rattle.std.proofs.Common.{Contains, IfSome}
use Rattle.fo_plan.proofs.links.linked_atom.Given as goal

abbrev pub invariant-loop-atom : goal.invariant-loop-atom
invariant-loop-atom l = IfSome l.linked (Contains l.atoms)
