use Rattle.std.proofs.Common.{ℕ, ◌<◌, length, get_or}
use Rattle.key_closure.specs.Sets.{HasAtom}
use Rattle.plan_rows.specs.Grouping.{AreUnlinked}
use Rattle.plan_rows.proofs.grouped.next_joined.Given as goal

-- none of the atoms so far is joined to one of the group
abbrev pub invariant-loop-atom : goal.invariant-loop-atom
invariant-loop-atom l = (k : ℕ) → k < l.atom-index → (F : ℕ) → F < length l.setting.bound.now.query.now.atoms → HasAtom l.group F → (HasAtom l.group (get_or l.atoms k 0) → ⊥) → AreUnlinked l.setting.bound.now.query.now F (get_or l.atoms k 0)
