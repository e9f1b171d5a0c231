use Rattle.std.proofs.Common.{◌+◌, ◌*◌, take}
use Rattle.choice_values.specs.Parts.{AreSolved}
use Rattle.choice_values.proofs.Leasts.{IsBestSoFar}
use Rattle.choice_values.proofs.solving.+solve.Given as goal

abbrev pub decreases-solve : goal.decreases-solve
decreases-solve l = l.depth * 5

abbrev pub decreases-solve_with : goal.decreases-solve_with
decreases-solve_with l = l.depth * 5 + 1

abbrev pub decreases-solve_cases : goal.decreases-solve_cases
decreases-solve_cases l = l.depth * 5 + 2

abbrev pub decreases-solve_each : goal.decreases-solve_each
decreases-solve_each l = l.depth * 5 + 3

abbrev pub decreases-solve_parts : goal.decreases-solve_parts
decreases-solve_parts l = l.depth * 5 + 4

abbrev pub invariant-solve_cases-loop-row : goal.invariant-solve_cases-loop-row
invariant-solve_cases-loop-row l = IsBestSoFar l.sizes l.lists l.block l.row l.fn.rows.items l.rows.items l.aside.items l.best

abbrev pub invariant-solve_each-loop-part : goal.invariant-solve_each-loop-part
invariant-solve_each-loop-part l = AreSolved l.sizes (take l.part-index l.parts) l.fn.rows.items l.rows.items l.sum
