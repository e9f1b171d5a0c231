use Rattle.std.proofs.Common.{rules, ap}
use Rattle.std.specs.Ordering.{is_lt}
use Rattle.std.proofs.lemmas.Fn.{always_returns_same}
use Rattle.std.proofs.lemmas.List.Sorted.{ranks_by}
use Rattle.cqa_value.proofs.RowOrder.{block_total}
use Rattle.row_order.proofs.sort.sort_rows.Goals as goal

pub returns-clause-sorted : goal.returns-clause-sorted
returns-clause-sorted c =
    c.sort_unstable_by.ensures.sorted _ (ranks_by (block_total c.args.key.now) (λ row. row)) (always_returns_same _ _ _ (λ a r f k. (ap is_lt (search rules), search rules)))
