use Rattle.std.proofs.Common.{ℕ, ◌<◌}
use Rattle.query_strategy.specs.Apart.{HasLoose, IsLooseAt}
use Rattle.union_ask.proofs.sharing.share_loose.Given as goal

-- none of the tables of the atoms so far
abbrev pub invariant-loop-atom : goal.invariant-loop-atom
invariant-loop-atom l = (F t : ℕ) → F < l.atom-index → IsLooseAt l.first F t → HasLoose l.second t → ⊥
