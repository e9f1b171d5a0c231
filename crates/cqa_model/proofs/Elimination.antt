-- The plan of a view is an elimination order of it.
use Rattle.std.proofs.Common.{ℕ, List, [], ◌∷◌}
use Rattle.cqa_model.specs.declared.query.Query.{Query}
use Rattle.cqa_model.specs.Variables.{View, after}
use Rattle.cqa_model.specs.Plan.{IsElimination, IsPlan}

pub plan-eliminates : (q : Query) (view : View) (plan : List ℕ) → IsPlan q view plan → IsElimination q view plan
plan-eliminates q view [] h = h
plan-eliminates q view (F ∷ plan) h = (h.0, h.1, plan-eliminates q (after q view F) plan h.3)
