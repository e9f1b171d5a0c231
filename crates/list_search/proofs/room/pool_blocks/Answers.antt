use Rattle.std.proofs.Common.{get_or}
use Rattle.row_lists.proofs.Reading.{no_span, numbers-small, read_in}
use Rattle.list_search.proofs.room.pool_blocks.Goals as goal

pub fill_block-requires-clause-small : goal.fill_block-requires-clause-small
fill_block-requires-clause-small c =
    let blocks = c.args.blocks.now in
    let items = c.as_slice-span-items.result.now in
    let i = c.loop-span.span-index in
    numbers-small blocks.spans blocks.vars blocks.kept (get_or items i no_span) (read_in blocks.spans items i c.as_slice-span-items.ensures c.loop-span-test.true)
