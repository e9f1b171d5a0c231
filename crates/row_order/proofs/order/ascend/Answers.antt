use Rattle.std.proofs.Common.{[], rules, sym}
use Rattle.std.specs.Ordering.{is_lt}
use Rattle.std.proofs.lemmas.Fn.{always_returns_same}
use Rattle.std.proofs.lemmas.Map.Keys.{sorted_from_all_adjacent}
use Rattle.cqa_value.specs.Values.{block_cmp}
use Rattle.row_order.proofs.BlockOrder.{block_total, is_less}
use Rattle.row_order.proofs.order.ascend.Goals as goal

pub returns : goal.returns
returns c ascends =
    let key = c.args.key.now in
    let cases = c.is_sorted_by.ensures.cases (λ x y. is_lt (block_cmp key x y)) (always_returns_same _ _ _ (λ a r f k. search rules)) in
    sorted_from_all_adjacent (block_total key) c.args.rows.now [] (λ k l. is_less _ (sym ((rw ascends at cases) k [] l)))
