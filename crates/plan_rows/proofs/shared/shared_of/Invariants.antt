use Rattle.std.proofs.Common.{ℕ, ◌<◌, Contains, get_or}
use Rattle.cqa_model.specs.Query.{atom_at}
use Rattle.plan_rows.specs.Left.{IsTold}
use Rattle.plan_rows.proofs.shared.shared_of.Given as goal

-- so it is of the atoms so far
abbrev pub invariant-loop-atom : goal.invariant-loop-atom
invariant-loop-atom l = (k : ℕ) → k < l.atom-index → (j : ℕ) → j < (atom_at l.setting.bound.now.query.now (get_or l.front k 0)).width → IsTold l.setting.bound.now.query.now l.rest (record { atom = get_or l.front k 0; col = j }) → Contains l.columns.items (record { atom = get_or l.front k 0; col = j })
