use Rattle.std.proofs.Common.{false}
use Rattle.table_blocks.proofs.Spanning.{parted}
use Rattle.table_blocks.proofs.span.rows_near.Goals as goal

pub start_near-requires-clause-parted : goal.start_near-requires-clause-parted
start_near-requires-clause-parted c = parted c.args.key.now c.args.rows.now c.args.probe.now c.requires.in_order false

pub start_of-start-requires-clause-parted : goal.start_of-start-requires-clause-parted
start_of-start-requires-clause-parted c = parted c.args.key.now c.args.rows.now c.args.probe.now c.requires.in_order false
