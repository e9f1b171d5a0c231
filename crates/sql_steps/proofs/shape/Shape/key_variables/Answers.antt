use Rattle.sql_steps.proofs.Steps.{columns-within, key-within}
use Rattle.sql_steps.proofs.shape.Shape.key_variables.Goals as goal

pub bounds-vs-column : goal.bounds-vs-column
bounds-vs-column c = columns-within c.args.self.now.query.now c.args.atom c.of-vs.result.now c.key-column-items.result.now c.of-vs.ensures (key-within c.args.self.now.query.now c.args.atom c.key-column-items.result.now c.requires c.key-column-items.ensures) c.loop-column.column-index 0 c.loop-column-test.true
