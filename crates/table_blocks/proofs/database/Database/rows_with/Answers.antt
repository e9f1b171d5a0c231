use Rattle.std.proofs.Common.{arith}
use Rattle.row_order.specs.Spans.{IsSpan}
use Rattle.table_blocks.proofs.Naming.{at_place, found_few}
use Rattle.table_blocks.proofs.Spanning.{span-within}
use Rattle.table_blocks.proofs.database.Database.rows_with.Goals as goal

pub overflow_cast-result : goal.overflow_cast-result
overflow_cast-result c =
    let t = c.table.result.now in
    let few = found_few c.args.self.now c.args.table t c.table.ensures.found c.table.ensures.database.few_rows in
    let fit = span-within t.schema.key t.rows c.args.probe.now c.rows_with-start.result.0 c.rows_with-start.result.1 c.rows_with-start.ensures in
    omega (arith, few, fit)

pub returns-clause-span : goal.returns-clause-span
returns-clause-span c =
    at_place (λ key rows. IsSpan key rows c.args.probe.now c.rows_with-start.result.0 c.rows_with-start.result.1) c.args.self.now c.args.table c.table.result.now c.table.ensures.found c.rows_with-start.ensures

pub returns-clause-within : goal.returns-clause-within
returns-clause-within c =
    let t = c.table.result.now in
    let few = found_few c.args.self.now c.args.table t c.table.ensures.found c.table.ensures.database.few_rows in
    let fit = span-within t.schema.key t.rows c.args.probe.now c.rows_with-start.result.0 c.rows_with-start.result.1 c.rows_with-start.ensures in
    omega (arith, few, fit)
