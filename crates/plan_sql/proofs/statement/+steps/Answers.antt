use Rattle.std.proofs.Common.{◌≡◌, ◌∙◌, ◌+◌, ◌∷◌, IfOk, OnOk, ap, arith, length, subst}
use Rattle.plan_sql.specs.Statement.{Made}
use Rattle.plan_sql.proofs.Steps.{atoms-head, atoms-tail, made-behind, made-first}
use Rattle.plan_sql.proofs.statement.+steps.Goals as goal

pub push_from-push_later-requires : goal.push_from-push_later-requires
push_from-push_later-requires t c =
    let n : length c.args.plan.now ≡ length c.args.later.now + 1 = ap length c.requires.first ∙ omega arith in (
      omega (arith, n, c.decreases),
      (
        atoms-head c.args.shape.now.query.now c.args.plan.now c.args.level.now.atom c.args.later.now c.requires.first c.requires.plan,
        (
          atoms-tail c.args.shape.now.query.now c.args.plan.now c.args.level.now.atom c.args.later.now c.requires.first c.requires.plan,
          (c.requires.bounds, omega (arith, n, c.requires.number)),
        ),
      ),
    )

pub push_from-returns-clause-steps : goal.push_from-returns-clause-steps
push_from-returns-clause-steps t c =
    let level = c.args.level.now in
    let made = made-behind c.args.shape.now.query.now level.number c.args.known.now level.bounds.now level.only.now level.atom c.args.steps.now c.args.later.now c.push_later.new.steps c.as_slice.result.now
    c.in_ok-parts.ensures.steps (c.as_slice.ensures ∙ c.in_ok-parts.ensures.parts)
    in
    subst (λ (m : Made). OnOk c.with_level-around.result (c.with_level-around.new.steps ≡ m.steps)) made c.with_level-around.ensures.steps

pub push_from-returns-clause-parts : goal.push_from-returns-clause-parts
push_from-returns-clause-parts t c =
    let level = c.args.level.now in
    let made = made-behind c.args.shape.now.query.now level.number c.args.known.now level.bounds.now level.only.now level.atom c.args.steps.now c.args.later.now c.push_later.new.steps c.as_slice.result.now
    c.in_ok-parts.ensures.steps (c.as_slice.ensures ∙ c.in_ok-parts.ensures.parts)
    in
    subst (λ (m : Made). IfOk c.with_level-around.result (λ parts. parts ≡ m.parts)) made c.with_level-around.ensures.parts

pub push_made-returns-clause-steps : goal.push_made-returns-clause-steps
push_made-returns-clause-steps t c =
    let split : c.args.plan.now ≡ c.in-Some.atom.now ∷ c.in-Some.later.now = c.in-Some.ensures.cases.0 in
    let made = made-first c.args.shape.now.query.now c.args.number c.args.known.now c.args.bounds.now c.args.plan.now c.in-Some.atom.now c.in-Some.later.now c.args.steps.now c.as_slice-only.result.now c.push_asked.new.steps split
    (c.as_slice-only.ensures ∙ c.in_ok-only.ensures.only) c.in_ok-only.ensures.steps
    in
    subst (λ (m : Made). OnOk c.push_from.result (c.push_from.new.steps ≡ m.steps)) made c.push_from.ensures.steps

pub push_made-returns-clause-parts : goal.push_made-returns-clause-parts
push_made-returns-clause-parts t c =
    let split : c.args.plan.now ≡ c.in-Some.atom.now ∷ c.in-Some.later.now = c.in-Some.ensures.cases.0 in
    let made = made-first c.args.shape.now.query.now c.args.number c.args.known.now c.args.bounds.now c.args.plan.now c.in-Some.atom.now c.in-Some.later.now c.args.steps.now c.as_slice-only.result.now c.push_asked.new.steps split
    (c.as_slice-only.ensures ∙ c.in_ok-only.ensures.only) c.in_ok-only.ensures.steps
    in
    subst (λ (m : Made). IfOk c.push_from.result (λ parts. parts ≡ m.parts)) made c.push_from.ensures.parts
