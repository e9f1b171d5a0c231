use Rattle.std.proofs.Common.{false}
use Rattle.table_blocks.proofs.Spanning.{parted}
use Rattle.table_blocks.proofs.span.rows_with.Goals as goal

pub start_of-requires-clause-parted : goal.start_of-requires-clause-parted
start_of-requires-clause-parted c = parted c.args.key.now c.args.rows.now c.args.probe.now c.requires.in_order false
