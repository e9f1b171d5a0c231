use Rattle.std.proofs.Common.{◌≡◌, ◌≤◌}
use Rattle.query_strategy.specs.declared.shared.Shared.{Shared}
use Rattle.query_strategy.specs.Apart.{IsShared}
use Rattle.query_strategy.proofs.shared.shared_of.Given as goal

-- none of the part's tables so far
abbrev pub invariant-loop-atom : goal.invariant-loop-atom
invariant-loop-atom l = (x : Shared) → IsShared l.parts x → x.first ≡ l.first → l.atom ≤ x.atom
