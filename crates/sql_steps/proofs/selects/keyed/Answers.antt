use Rattle.sql_steps.proofs.Steps.{key-within}
use Rattle.sql_steps.proofs.selects.keyed.Goals as goal

pub fit_on-requires-clause-columns : goal.fit_on-requires-clause-columns
fit_on-requires-clause-columns c = key-within c.args.shape.now.query.now c.args.atom c.key.result.now c.requires c.key.ensures
