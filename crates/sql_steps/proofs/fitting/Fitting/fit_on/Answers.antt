use Rattle.sql_steps.proofs.Steps.{columns-within}
use Rattle.sql_steps.proofs.fitting.Fitting.fit_on.Goals as goal

pub see_all-requires : goal.see_all-requires
see_all-requires c = columns-within c.args.shape.now.query.now c.args.atom c.of.result.now c.args.columns.now c.of.ensures c.requires.columns
