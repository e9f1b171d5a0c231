use Rattle.std.proofs.Common.{ℕ, ◌<◌, ◌≤◌, slice_index}
use Rattle.weak_pairs.specs.Peeling.{IsTaken}
use Rattle.weak_pairs.proofs.matching.Matching.free_row.Given as goal

abbrev pub invariant-loop-row : goal.invariant-loop-row
invariant-loop-row l = (i : ℕ) → l.first ≤ i → i < l.row → IsTaken l.self.taken.items (slice_index l.graph.edge.now i)
