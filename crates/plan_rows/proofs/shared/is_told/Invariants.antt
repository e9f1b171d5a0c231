use Rattle.std.proofs.Common.{ℕ, ◌<◌, get_or}
use Rattle.cqa_model.specs.Query.{atom_at}
use Rattle.cqa_model.specs.Variables.{AreLinked}
use Rattle.plan_rows.proofs.shared.is_told.Given as goal

-- no atom so far has such a column
abbrev pub invariant-loop-atom : goal.invariant-loop-atom
invariant-loop-atom l = (k : ℕ) → k < l.atom-index → (i : ℕ) → i < (atom_at l.bound.query.now (get_or l.atoms k 0)).width → AreLinked l.bound.query.now (record { atom = get_or l.atoms k 0; col = i }) l.column → ⊥
