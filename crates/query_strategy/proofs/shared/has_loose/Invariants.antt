use Rattle.std.proofs.Common.{ℕ, ◌<◌}
use Rattle.query_strategy.specs.Apart.{IsLooseAt}
use Rattle.query_strategy.proofs.shared.has_loose.Given as goal

-- none of the atoms so far
abbrev pub invariant-loop-atom : goal.invariant-loop-atom
invariant-loop-atom l = (F : ℕ) → F < l.atom-index → IsLooseAt l.query F l.table → ⊥
