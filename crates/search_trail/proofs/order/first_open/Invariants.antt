use Rattle.std.proofs.Common.{◌≡◌, ◌≤◌, ◌<◌, ℕ, Some, None}
use Rattle.std.specs.Prelude.{slice_index_or}
use Rattle.search_trail.proofs.order.first_open.Given as goal

abbrev pub invariant-loop-var : goal.invariant-loop-var
invariant-loop-var l = (v : ℕ) → 1 ≤ v → v < l.var → (p : ℕ) × (slice_index_or l.places v None ≡ Some p)
