use Rattle.std.proofs.Common.{rules}
use Rattle.table_changes.proofs.Stretches.{begin_at}
use Rattle.table_changes.proofs.preferred.last_start.Goals as goal

pub returns-clause-begins : goal.returns-clause-begins
returns-clause-begins c = begin_at c.args.key.now c.args.rows.now c.saturating_sub.result c.block_start.result c.requires.in_order (search rules) c.block_start.ensures.before c.block_start.ensures.block
