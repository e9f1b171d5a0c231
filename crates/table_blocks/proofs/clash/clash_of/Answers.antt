use Rattle.table_blocks.proofs.Sharing.{consistent_unbroken}
use Rattle.table_blocks.proofs.clash.clash_of.Goals as goal

pub returns-in_default-clause-consistent : goal.returns-in_default-clause-consistent
returns-in_default-clause-consistent c none = consistent_unbroken c.args.key.now c.args.rows.now c.requires c.in_default.ensures
