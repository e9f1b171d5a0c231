use Rattle.std.proofs.Common.{◌∙◌, ◌++◌, ◌∷◌, ◌-◌, [], ap, length, sym}
use Rattle.std.proofs.lemmas.Result.{on_ok_weaker}
use Rattle.sql_text.specs.declared.syntax.Body.TheVariants.{Grouped}
use Rattle.sql_text.specs.declared.syntax.StepKind.TheVariants.{Holds}
use Rattle.sql_steps.specs.Steps.{context_group}
use Rattle.plan_sql.specs.Statement.{guard_for, looked_steps, step}
use Rattle.plan_sql.proofs.Steps.{behind-looked, behind-blocks}
use Rattle.plan_sql.proofs.levels.push_blocks.Goals as goal

pub returns-then-branch : goal.returns-then-branch
returns-then-branch c =
    let q = c.args.shape.now.query.now in
    let level = c.args.level.now in
    let context = c.args.context.now in
    let parts = c.args.parts.now in
    let before = c.args.steps.now in
    let now = c.push_looked.new.steps in
    let found = looked_steps q level.number level.atom level.bounds.now c.args.block.now (length before) (guard_for q level.bounds.now c.args.block.now) in
    on_ok_weaker c.push_context_groups.result
    (λ e. e ∙ ap (λ b. now ++ step Holds level.number context (Grouped (context_group q level.atom (length now - 1) b parts context)) ∷ []) c.requires.block
    ∙ behind-looked q level.number level.atom context level.only.now level.bounds.now parts before now found (sym c.in_ok-push_looked.ensures.found ∙ c.if-branch.true) c.in_ok-push_looked.ensures.steps)
    c.push_context_groups.ensures

pub returns-else-branch : goal.returns-else-branch
returns-else-branch c =
    let q = c.args.shape.now.query.now in
    let level = c.args.level.now in
    let before = c.args.steps.now in
    let now = c.push_looked.new.steps in
    let found = looked_steps q level.number level.atom level.bounds.now c.args.block.now (length before) (guard_for q level.bounds.now c.args.block.now) in
    on_ok_weaker c.push_by_block.result
    (λ e. e ∙ behind-blocks q level.number level.atom c.args.context.now level.only.now level.bounds.now c.args.parts.now before now found (sym c.in_ok-push_looked.ensures.found ∙ c.if-branch.false) c.in_ok-push_looked.ensures.steps)
    c.push_by_block.ensures
