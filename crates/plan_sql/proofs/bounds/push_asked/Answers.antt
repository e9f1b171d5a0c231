use Rattle.std.proofs.Common.{◌≡◌, ◌∙◌, ◌++◌, ◌&&◌, Some, ap, sym}
use Rattle.std.proofs.lemmas.Result.{on_ok_weaker}
use Rattle.sql_steps.specs.Variables.{key_variables, meets, variables_of}
use Rattle.plan_sql.specs.Statement.{asked_steps, bound_for}
use Rattle.plan_sql.specs.declared.bounds.Bound.{Bound}
use Rattle.plan_sql.proofs.Steps.{first-found}
use Rattle.plan_sql.proofs.bounds.push_asked.Goals as goal

pub returns-then-asks-clause-steps : goal.returns-then-asks-clause-steps
returns-then-asks-clause-steps c =
    let q = c.args.shape.now.query.now in
    let F = c.args.atom in
    let bound = c.bound-item.result in
    let same : c.asks.result ≡ (bound.few && meets (variables_of q bound.atom) (key_variables q F)) =
    c.asks.ensures ∙ ap (λ z. bound.few && meets (variables_of q bound.atom) z) (c.as_slice.ensures ∙ c.in_ok-keys.ensures)
    in
    let found : bound_for q c.args.bounds.now F ≡ Some bound =
    sym c.loop-bound.invariant.left ∙ first-found (λ (b : Bound). b.few && meets (variables_of q b.atom) (key_variables q F)) c.loop-bound.bound-index c.args.bounds.now bound _ c.loop-bound-test.true c.bound-item.is (sym same ∙ c.if-asks.true)
    in
    on_ok_weaker c.push_asked_by.result (λ e. e ∙ ap (λ z. z ++ asked_steps q c.args.number F (Some bound)) c.loop-bound.invariant.same
    ∙ ap (λ o. c.args.steps.now ++ asked_steps q c.args.number F o) (sym found)) c.push_asked_by.ensures.steps
