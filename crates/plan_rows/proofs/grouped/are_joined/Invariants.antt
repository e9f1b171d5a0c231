use Rattle.std.proofs.Common.{ℕ, ◌<◌}
use Rattle.cqa_model.specs.Query.{atom_at}
use Rattle.cqa_model.specs.Variables.{AreLinked}
use Rattle.plan_rows.proofs.grouped.are_joined.Given as goal

-- no column so far is linked
abbrev pub invariant-loop-col : goal.invariant-loop-col
invariant-loop-col l = (j : ℕ) → j < l.col → (i : ℕ) → i < (atom_at l.bound.query.now l.atom).width → AreLinked l.bound.query.now (record { atom = l.atom; col = i }) (record { atom = l.other; col = j }) → ⊥
