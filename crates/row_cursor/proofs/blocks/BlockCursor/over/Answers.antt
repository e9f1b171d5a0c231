use Rattle.row_blocks.proofs.Parting.{blocks-are, blocks-few, side_by_side}
use Rattle.row_cursor.proofs.blocks.BlockCursor.over.Goals as goal

pub returns-clause-blocks : goal.returns-clause-blocks
returns-clause-blocks c = blocks-are c.args.key.now c.args.rows (side_by_side c.args.key.now c.args.rows c.requires)

pub returns-clause-few : goal.returns-clause-few
returns-clause-few c = blocks-few c.args.key.now c.args.rows
