use Rattle.std.proofs.Common.{rules}
use Rattle.std.specs.Ordering.{is_lt}
use Rattle.std.proofs.lemmas.Fn.{always_returns_same}
use Rattle.cqa_model.specs.Database.{block_cmp}
use Rattle.row_order.proofs.BlockOrder.{block_total, block_exact, block_alike}
use Rattle.table_blocks.proofs.Following.{followed}
use Rattle.table_blocks.proofs.Sorting.{place_from_point, parted}
use Rattle.table_blocks.proofs.rows.place_in.Goals as goal

pub returns-clause-place : goal.returns-clause-place
returns-clause-place c s =
    let key = c.args.key.now in
    let row = c.args.row.now in
    place_from_point (block_cmp key) (block_total key) (block_exact key) (block_alike key) c.args.rows.now row c.parted.result c.parted.ensures.within
    (c.parted.ensures.partitioned (λ y. is_lt (block_cmp key y row)) (always_returns_same _ _ _ (λ a r f k. search rules)) (followed c.first_keyed.result c.second_keyed.result key row c.first_keyed.ensures c.second_keyed.ensures) (parted (block_cmp key) (block_total key) (block_exact key) (block_alike key) c.args.rows.now row s))
