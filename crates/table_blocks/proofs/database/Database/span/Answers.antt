use Rattle.std.proofs.Common.{arith}
use Rattle.table_blocks.proofs.Spanning.{span-within}
use Rattle.table_blocks.proofs.database.Database.span.Goals as goal

pub returns-clause-within : goal.returns-clause-within
returns-clause-within g c =
    let fit = span-within c.key.result.now c.rows.result c.args.probe.now c.span_in-start.result.0 c.span_in-start.result.1 c.span_in-start.ensures.span in
    let few = c.rows.ensures.few in
    omega (arith, fit, few)
