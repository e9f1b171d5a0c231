use Rattle.cqa_model.specs.Plan.{IsEliminationOf}
use Rattle.fo_rewrite.proofs.passes.cheapest.Given as goal

abbrev pub invariant-loop-atom : goal.invariant-loop-atom
invariant-loop-atom l = IsEliminationOf l.outset.named.now.query.now l.best.plan.order
