use Rattle.std.proofs.Common.{sym, true≢false}
use Rattle.cqa_model.specs.Database.{block_cmp}
use Rattle.row_order.proofs.BlockOrder.{block_total, block_exact, block_alike}
use Rattle.table_blocks.proofs.Sorting.{absent}
use Rattle.table_blocks.proofs.rows.find_in.Goals as goal

pub returns-else-stands : goal.returns-else-stands
returns-else-stands c =
    let key = c.args.key.now in
    absent (block_cmp key) (block_total key) (block_exact key) (block_alike key) c.args.rows.now c.args.row.now c.place_in-at.result c.requires (c.place_in-at.ensures.place c.requires)
    (λ e. true≢false (sym (c.if-stands.ensures.1 e)))
