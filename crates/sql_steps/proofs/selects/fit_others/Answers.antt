use Rattle.std.proofs.Common.{◌∙◌}
use Rattle.sql_steps.proofs.Steps.{others-within}
use Rattle.sql_steps.proofs.selects.fit_others.Goals as goal

pub fit_on-requires-clause-columns : goal.fit_on-requires-clause-columns
fit_on-requires-clause-columns c = others-within c.args.shape.now.query.now c.args.atom c.as_slice.result.now (c.as_slice.ensures ∙ c.in_ok-others.ensures)
