use Rattle.std.proofs.Common.{arith}
use Rattle.table_blocks.proofs.Spanning.{span-within}
use Rattle.table_blocks.proofs.rows.told_places.Goals as goal

pub overflow_add-result : goal.overflow_add-result
overflow_add-result c =
    let fit = span-within c.args.key.now c.args.rows.now c.known_key-probe.result c.rows_with-from.result.0 c.rows_with-from.result.1 c.rows_with-from.ensures in
    let all = c.len.ensures in
    let small = c.len.type_inv in
    let told = c.len-2.ensures in
    omega (arith, fit, all, small, told)
