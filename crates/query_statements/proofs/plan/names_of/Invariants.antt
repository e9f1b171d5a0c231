use Rattle.std.proofs.Common.{◌≡◌, take}
use Rattle.query_statements.specs.Plan.{names_at}
use Rattle.query_statements.proofs.plan.names_of.Given as goal

-- the names of the atoms so far
abbrev pub invariant-loop-atom : goal.invariant-loop-atom
invariant-loop-atom l = l.steps ≡ names_at l.names (take l.atom-index l.atoms)
