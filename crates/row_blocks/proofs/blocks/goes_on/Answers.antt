use Rattle.row_blocks.proofs.BlockEnds.{goes}
use Rattle.row_blocks.proofs.blocks.goes_on.Goals as goal

pub returns : goal.returns
returns c = goes c.args.key.now c.args.rows.now c.args.at c.args.other _ _ c.same_key.result c.get.ensures c.get-2.ensures c.same_key.ensures
