use Rattle.std.proofs.Common.{ℕ, ◌<◌, ◌≢◌}
use Rattle.cqa_model.specs.Variables.{AreLinked}
use Rattle.pair_answers.proofs.plain.are_apart.Given as goal

abbrev pub invariant-loop-i : goal.invariant-loop-i
invariant-loop-i l = (a b : ℕ) → a < l.i → b < l.columns → a ≢ b → AreLinked l.bound.query.now (record { atom = l.atom; col = a }) (record { atom = l.atom; col = b }) → ⊥

abbrev pub invariant-loop-j : goal.invariant-loop-j
invariant-loop-j l = (b : ℕ) → b < l.j → l.i ≢ b → AreLinked l.bound.query.now (record { atom = l.atom; col = l.i }) (record { atom = l.atom; col = b }) → ⊥
