use Rattle.std.proofs.Common.{◌≡◌, ◌≤◌, ◌∙◌, ap, arith, true, false, length, subst, rules}
use Rattle.std.specs.Ordering.{is_lt}
use Rattle.std.specs.List.Sorted.{IsPartitionedBy, IsPartitionPoint}
use Rattle.std.proofs.lemmas.List.{length-drop}
use Rattle.std.proofs.lemmas.Fn.{always_returns_same}
use Rattle.std.proofs.lemmas.Option.{slice_get_within}
use Rattle.cqa_model.specs.Database.{block_cmp}
use Rattle.row_order.proofs.BlockOrder.{block_total, block_exact, block_alike}
use Rattle.table_changes.proofs.Placing.{place_from_part}
use Rattle.table_changes.proofs.fresh.place_from.Goals as goal

pub returns-clause-place : goal.returns-clause-place
returns-clause-place c s below =
    let key = c.args.key.now in
    let row = c.args.row.now in
    let at = c.leading.result in
    let rest = c.split_at-rest.ensures.rest in
    place_from_part (block_cmp key) (block_total key) (block_exact key) (block_alike key) c.args.rows.now row c.args.from at c.requires.there (subst (λ l. at ≤ length l) rest c.leading.ensures.within) s below
    (subst (λ l. IsPartitionedBy (λ y. is_lt (block_cmp key y row)) l → IsPartitionPoint (λ y. is_lt (block_cmp key y row) ≡ true) (λ y. is_lt (block_cmp key y row) ≡ false) l at) rest
    (c.leading.ensures.partitioned (λ y. is_lt (block_cmp key y row)) (always_returns_same _ _ _ (λ a r f k. search rules))))

pub returns-then-from-len-clause-place : goal.returns-then-from-len-clause-place
returns-then-from-len-clause-place c s below = record {
  within = c.requires.there;
  below = below;
  stops = λ other found less. (let there = slice_get_within c.args.rows.now c.args.from other found in let all = c.len.ensures in let same = c.if-from-len.true in absurd (omega (arith, there, all, same)));
}

pub overflow_add-result : goal.overflow_add-result
overflow_add-result c =
    let all = c.len.ensures in
    let small = c.len.type_inv in
    let rest = ap length c.split_at-rest.ensures.rest ∙ length-drop c.args.from c.args.rows.now in
    let found = c.leading.ensures.within in
    let there = c.requires.there in
    omega (arith, all, small, rest, found, there)
