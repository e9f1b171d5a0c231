use Rattle.std.proofs.Common.{◌≡◌, ℕ, ◌≤◌, ◌<◌, ◌⊎◌, ◌↔◌, length}
use Rattle.repair_back.specs.Flags.{IsFlagged}
use Rattle.repair_back.proofs.choice.Choice.set_only.Given as goal

-- so it is up to here
abbrev pub invariant-loop-place : goal.invariant-loop-place
invariant-loop-place l = record {
  size : length l.self-inside.flags.items ≡ length l.fn.self;
  is : (p : ℕ) → IsFlagged l.self-inside.flags.items p ↔ (((p ≡ l.kept) × (p < l.place)) ⊎ (IsFlagged l.fn.self p × ((p < l.start) ⊎ (l.place ≤ p))));
}
