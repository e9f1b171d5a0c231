use Rattle.cqa_value.proofs.Words.{Contains-slice_get}
use Rattle.block_lists.proofs.guess.mark_lists.Goals as goal

pub mark_list-requires : goal.mark_list-requires
mark_list-requires c = c.requires c.list.result.now (Contains-slice_get c.args.lists.now c.loop-at.at c.list.result.now c.list.ensures)
