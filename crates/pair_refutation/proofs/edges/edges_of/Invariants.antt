use Rattle.std.proofs.Common.{◌≡◌, map, take, slice_index}
use Rattle.pair_refutation.proofs.edges.edges_of.Given as goal

abbrev pub invariant-loop-x : goal.invariant-loop-x
invariant-loop-x l = l.edge.items ≡ map (λ x. slice_index l.of_var x) (take l.x-index l.var)
