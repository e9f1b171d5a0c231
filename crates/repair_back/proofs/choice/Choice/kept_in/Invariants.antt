use Rattle.std.proofs.Common.{ℕ, ◌<◌, ◌≤◌, ◌-◌}
use Rattle.repair_back.specs.Flags.{IsFlagged}
use Rattle.repair_back.proofs.choice.Choice.kept_in.Given as goal

-- no flag is set up to here
pub record NoneSoFar (start at : ℕ) (flags : Rattle.std.specs.Prelude.List Rattle.std.specs.Prelude.Bool) : Type 0 where
  pub after : start ≤ at
  pub none : (p : ℕ) → start ≤ p → p < at → IsFlagged flags p → ⊥

abbrev pub invariant-loop-self : goal.invariant-loop-self
invariant-loop-self l = NoneSoFar l.start l.at l.self

abbrev pub decreases-loop-self : goal.decreases-loop-self
decreases-loop-self l = l.end - l.at
