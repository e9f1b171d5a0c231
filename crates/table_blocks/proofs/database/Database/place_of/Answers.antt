use Rattle.std.proofs.Common.{arith}
use Rattle.std.proofs.lemmas.Option.{slice_get_within}
use Rattle.table_blocks.proofs.database.Database.place_of.Goals as goal

pub overflow_cast-result : goal.overflow_cast-result
overflow_cast-result c =
    let inside = slice_get_within c.rows.result c.in_ok-at.at c.args.row.now c.in_ok-at.ensures in
    let few = c.rows.ensures.few in
    omega (arith, inside, few)
