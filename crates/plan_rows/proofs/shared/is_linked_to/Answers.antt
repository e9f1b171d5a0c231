use Rattle.std.proofs.Common.{◌∙◌, ◌<◌, refl, sym, subst, below_more, arith}
use Rattle.std.proofs.lemmas.Bool.{false≢true}
use Rattle.cqa_model.proofs.ClassNames.{untold}
use Rattle.table_blocks.proofs.Binding.{in-range}
use Rattle.plan_rows.proofs.shared.is_linked_to.Goals as goal

pub are_linked-requires-clause-variables : goal.are_linked-requires-clause-variables
are_linked-requires-clause-variables c = untold c.args.bound.now.query.now c.args.bound.now.variables c.args.bound.now.named

pub are_linked-requires-clause-a : goal.are_linked-requires-clause-a
are_linked-requires-clause-a c = in-range c.args.bound.now.query.now c.args.atom c.loop-col.col (subst (λ n. c.loop-col.col < n) c.width_of-col-end.ensures c.loop-col-test.true)

pub returns-then-are_linked : goal.returns-then-are_linked
returns-then-are_linked c = (
  (λ e. (c.loop-col.col, subst (λ n. c.loop-col.col < n) c.width_of-col-end.ensures c.loop-col-test.true, c.are_linked.ensures.0 c.if-are_linked.true)),
  (λ h. refl),
)

pub loop-col-preserved : goal.loop-col-preserved
loop-col-preserved c = below_more _ _ c.loop-col.invariant (λ k. false≢true (sym c.if-are_linked.false ∙ c.are_linked.ensures.1 k))

pub returns : goal.returns
returns c = (
  (λ e. absurd (false≢true e)),
  (λ h. let l = h.1 in absurd (c.loop-col.invariant h.0 (omega (arith, c.loop-col-test.false, c.width_of-col-end.ensures, l)) h.2)),
)
