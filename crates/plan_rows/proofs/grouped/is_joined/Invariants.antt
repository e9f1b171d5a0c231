use Rattle.std.proofs.Common.{ℕ, ◌<◌}
use Rattle.key_closure.specs.Sets.{HasAtom}
use Rattle.plan_rows.specs.Grouping.{AreUnlinked}
use Rattle.plan_rows.proofs.grouped.is_joined.Given as goal

-- none of the group so far is joined to it
abbrev pub invariant-loop-other : goal.invariant-loop-other
invariant-loop-other l = (F : ℕ) → F < l.other → HasAtom l.group F → AreUnlinked l.bound.query.now F l.atom
