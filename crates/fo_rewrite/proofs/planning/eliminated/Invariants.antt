use Rattle.std.proofs.Common.{◌≡◌, ◌↔◌, ℕ}
use Rattle.fo_rewrite.specs.declared.preference.Choice.TheVariants.{First}
use Rattle.key_closure.specs.Sets.{size, HasAtom}
use Rattle.key_closure.specs.Members.{seen}
use Rattle.fo_rewrite.specs.Planning.{IsAttacked}
use Rattle.fo_rewrite.proofs.PlanSteps.{Planned}
use Rattle.fo_rewrite.proofs.planning.eliminated.Given as goal

abbrev pub decreases-take : goal.decreases-take
decreases-take l = size l.left

-- the atoms so far begin an elimination order of the query, its plan where each was the first; and those that are attacked
abbrev pub invariant-take : goal.invariant-take
invariant-take l = record {
  planned : Planned l.query (l.choice ≡ First) l.view l.left l.order;
  attacked : (G : ℕ) → HasAtom l.attacked G ↔ IsAttacked l.query (seen l.query l.view) G;
}
