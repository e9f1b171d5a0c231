use Rattle.std.proofs.Common.{◌≡◌, take}
use Rattle.sql_steps.specs.Steps.{cells_of}
use Rattle.sql_steps.proofs.fitting.cells_of.Given as goal

-- the cells so far
abbrev pub invariant-loop-v : goal.invariant-loop-v
invariant-loop-v l = l.cells ≡ cells_of l.known (take l.v-index l.vs)
