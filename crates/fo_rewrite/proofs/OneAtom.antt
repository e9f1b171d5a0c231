-- The order of a query of one atom.
use Rattle.std.proofs.Common.{◌≡◌, ℕ, ◌<◌, [], ◌∷◌, length, arith}
use Rattle.cqa_model.specs.declared.query.Query.{Query}
use Rattle.cqa_model.specs.Variables.{whole}
use Rattle.cqa_model.specs.Graph.{HasCycle}
use Rattle.cqa_model.specs.Plan.{IsUnattacked, IsEliminationOf, IsPlanOf}
use Rattle.cqa_model.proofs.Cycles.{plan_or_cycle}

module _ (q : Query) (one : length q.atoms ≡ 1) where
  free : IsUnattacked q (whole q) 0
  free G (has, there, apart, reached) = apart (omega (arith, has, there))

  none : (F : ℕ) → F < length q.atoms → (F ≡ 0 → ⊥) → ⊥
  none F l apart = apart (omega (arith, l))

  pub one-plan : IsPlanOf q (0 ∷ [])
  one-plan = (omega arith, free, (λ G has l u. absurd (omega (arith, l))), (λ F h. none F h.0 h.1))

  pub one-order : IsEliminationOf q (0 ∷ [])
  one-order = (omega arith, free, (λ F h. none F h.0 h.1))

  pub one-acyclic : HasCycle q (whole q) → ⊥
  one-acyclic h = plan_or_cycle.not_both q (0 ∷ []) one-order h
