use Rattle.std.proofs.Common.{arith, get_or}
use Rattle.sql_steps.proofs.Steps.{answer-item, variables-length}
use Rattle.sql_steps.proofs.shape.Shape.answer_variables.Goals as goal

pub of-requires : goal.of-requires
of-requires c = (answer-item c.args.self.now.query.now c.as_slice-column-items.result.now c.loop-column.column-index c.as_slice-column-items.ensures c.loop-column-test.true).0

pub bounds-of-column : goal.bounds-of-column
bounds-of-column c =
    let r = answer-item c.args.self.now.query.now c.as_slice-column-items.result.now c.loop-column.column-index c.as_slice-column-items.ensures c.loop-column-test.true in
    let n = variables-length c.args.self.now.query.now (get_or c.as_slice-column-items.result.now c.loop-column.column-index (record { atom = 0; col = 0 })).atom c.of.result.now c.of.ensures in
    omega (arith, r.1, n)
