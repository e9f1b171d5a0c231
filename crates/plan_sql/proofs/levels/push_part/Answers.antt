use Rattle.std.proofs.Common.{◌∙◌, ◌++◌, ap, length}
use Rattle.plan_sql.specs.Statement.{level_steps}
use Rattle.plan_sql.proofs.levels.push_part.Goals as goal

pub returns-clause-steps : goal.returns-clause-steps
returns-clause-steps c =
    let q = c.args.shape.now.query.now in
    let level = c.args.level.now in
    let before = c.args.steps.now in
    c.in_ok-push_level.ensures
    ∙ ap (λ context. before ++ level_steps q level.number level.atom context level.only.now level.bounds.now c.args.parts.now (length before)) (c.as_slice.ensures ∙ c.in_ok-columns.ensures)
