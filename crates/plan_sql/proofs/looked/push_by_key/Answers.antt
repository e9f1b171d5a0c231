use Rattle.std.proofs.Common.{◌≡◌, ◌∙◌, ◌++◌, [], List, Some, is_some, ap, length, sym}
use Rattle.std.specs.Option.{unwrap_or}
use Rattle.std.proofs.lemmas.Result.{on_ok_weaker, IfOk-weaker}
use Rattle.sql_text.specs.declared.syntax.Step.{Step}
use Rattle.plan_sql.specs.declared.bounds.Bound.{Bound}
use Rattle.sql_steps.specs.Variables.{covers, key_variables, variables_of}
use Rattle.plan_sql.specs.Statement.{completes, far_steps, first_of, guard_for, near_steps}
use Rattle.plan_sql.proofs.Steps.{first-found, first-next}
use Rattle.plan_sql.proofs.looked.push_by_key.Goals as goal

pub loop-near-preserved : goal.loop-near-preserved
loop-near-preserved c = record {
  left =
      let q = c.args.shape.now.query.now in
      let level = c.args.level.now in
      let near = c.near-item.result in
      let same : c.guards.result ≡ covers (variables_of q near.atom) (key_variables q level.atom) = c.guards.ensures ∙ ap (λ z. covers (variables_of q near.atom) z) c.requires.keys in
      first-next (λ (b : Bound). covers (variables_of q b.atom) (key_variables q level.atom)) c.loop-near.near-index level.bounds.now near _ c.loop-near-test.true c.near-item.is (sym same ∙ c.if-guards.false)
      ∙ c.loop-near.invariant.left;
  same = c.loop-near.invariant.same;
}

found : (c : goal.After-push_by_near) → guard_for c.args.shape.now.query.now c.args.level.now.bounds.now (key_variables c.args.shape.now.query.now c.args.level.now.atom) ≡ Some c.near-item.result
found c =
    let q = c.args.shape.now.query.now in
    let level = c.args.level.now in
    let near = c.near-item.result in
    let same : c.guards.result ≡ covers (variables_of q near.atom) (key_variables q level.atom) = c.guards.ensures ∙ ap (λ z. covers (variables_of q near.atom) z) c.requires.keys in
    sym c.loop-near.invariant.left
    ∙ first-found (λ (b : Bound). covers (variables_of q b.atom) (key_variables q level.atom)) c.loop-near.near-index level.bounds.now near _ c.loop-near-test.true c.near-item.is (sym same ∙ c.if-guards.true)

pub returns-then-guards-clause-steps : goal.returns-then-guards-clause-steps
returns-then-guards-clause-steps c =
    let q = c.args.shape.now.query.now in
    let level = c.args.level.now in
    let vs = c.args.vs.now in
    let before = c.args.steps.now in
    let near = c.near-item.result in
    on_ok_weaker c.push_by_near.result
    (λ e. e
    ∙ ap (λ z. z ++ unwrap_or (far_steps q level.number vs (length z) near (first_of (λ (b : Bound). completes q near vs b) level.bounds.now)) []) c.loop-near.invariant.same
    ∙ ap (λ o. before ++ unwrap_or (near_steps q level.number level.bounds.now vs (length before) o) []) (sym (found c)))
    c.push_by_near.ensures.steps

pub returns-then-guards-clause-found : goal.returns-then-guards-clause-found
returns-then-guards-clause-found c =
    let q = c.args.shape.now.query.now in
    let level = c.args.level.now in
    let vs = c.args.vs.now in
    let before = c.args.steps.now in
    let near = c.near-item.result in
    IfOk-weaker c.push_by_near.result _ _
    (λ is e. e
    ∙ ap (λ (z : List Step). is_some (far_steps q level.number vs (length z) near (first_of (λ (b : Bound). completes q near vs b) level.bounds.now))) c.loop-near.invariant.same
    ∙ ap (λ o. is_some (near_steps q level.number level.bounds.now vs (length before) o)) (sym (found c)))
    c.push_by_near.ensures.found
