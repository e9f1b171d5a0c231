use Rattle.std.proofs.Common.{◌≡◌, ◌∙◌, ◌++◌, [], Some, ap, length, sym}
use Rattle.std.specs.Option.{unwrap_or}
use Rattle.plan_sql.specs.declared.bounds.Bound.{Bound}
use Rattle.plan_sql.specs.Statement.{completes, far_steps, first_of, two_steps}
use Rattle.plan_sql.proofs.Steps.{first-found, first-next}
use Rattle.plan_sql.proofs.looked.push_by_near.Goals as goal

pub loop-far-preserved : goal.loop-far-preserved
loop-far-preserved c = record {
  left = first-next (λ (b : Bound). completes c.args.shape.now.query.now c.args.near.now c.args.vs.now b) c.loop-far.far-index c.args.level.now.bounds.now c.far-item.result _ c.loop-far-test.true c.far-item.is (sym c.in_ok-completes.ensures ∙ c.if-branch.false)
      ∙ c.loop-far.invariant.left;
  same = c.loop-far.invariant.same;
}

pub returns-then-branch-clause-steps : goal.returns-then-branch-clause-steps
returns-then-branch-clause-steps c =
    let q = c.args.shape.now.query.now in
    let level = c.args.level.now in
    let near = c.args.near.now in
    let vs = c.args.vs.now in
    let before = c.args.steps.now in
    let far = c.far-item.result in
    let found : first_of (λ (b : Bound). completes q near vs b) level.bounds.now ≡ Some far =
    sym c.loop-far.invariant.left ∙ first-found (λ (b : Bound). completes q near vs b) c.loop-far.far-index level.bounds.now far _ c.loop-far-test.true c.far-item.is (sym c.in_ok-completes.ensures ∙ c.if-branch.true)
    in
    c.in_ok-push_two.ensures ∙ ap (λ z. z ++ two_steps q level.number near far vs (length z)) c.loop-far.invariant.same
    ∙ ap (λ o. before ++ unwrap_or (far_steps q level.number vs (length before) near o) []) (sym found)
