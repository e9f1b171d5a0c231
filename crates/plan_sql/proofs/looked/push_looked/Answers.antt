use Rattle.std.proofs.Common.{◌≡◌, ◌∙◌, ◌++◌, [], Some, ap, length, sym}
use Rattle.std.specs.Option.{unwrap_or}
use Rattle.sql_steps.specs.Variables.{covers, variables_of}
use Rattle.plan_sql.specs.declared.bounds.Bound.{Bound}
use Rattle.plan_sql.specs.Statement.{guard_for, looked_steps, one_step}
use Rattle.plan_sql.proofs.Steps.{first-found, first-next}
use Rattle.plan_sql.proofs.looked.push_looked.Goals as goal

pub loop-bound-preserved : goal.loop-bound-preserved
loop-bound-preserved c = record {
  left = first-next (λ (b : Bound). covers (variables_of c.args.shape.now.query.now b.atom) c.args.vs.now) c.loop-bound.bound-index c.args.level.now.bounds.now c.bound-item.result _ c.loop-bound-test.true c.bound-item.is (sym c.guards.ensures ∙ c.if-guards.false) ∙ c.loop-bound.invariant.left;
  same = c.loop-bound.invariant.same;
}

pub returns-then-guards-clause-steps : goal.returns-then-guards-clause-steps
returns-then-guards-clause-steps c =
    let q = c.args.shape.now.query.now in
    let level = c.args.level.now in
    let vs = c.args.vs.now in
    let before = c.args.steps.now in
    let bound = c.bound-item.result in
    let found : guard_for q level.bounds.now vs ≡ Some bound =
    sym c.loop-bound.invariant.left ∙ first-found (λ (b : Bound). covers (variables_of q b.atom) vs) c.loop-bound.bound-index level.bounds.now bound _ c.loop-bound-test.true c.bound-item.is (sym c.guards.ensures ∙ c.if-guards.true)
    in
    c.in_ok-push_one.ensures ∙ ap (λ z. z ++ one_step q level.number bound.atom c.as_slice-only.result.now [] vs) c.loop-bound.invariant.same
    ∙ ap (λ only. before ++ one_step q level.number bound.atom only [] vs) c.as_slice-only.ensures
    ∙ ap (λ o. before ++ unwrap_or (looked_steps q level.number level.atom level.bounds.now vs (length before) o) []) (sym found)
