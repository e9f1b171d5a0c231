use Rattle.std.proofs.Common.{rules}
use Rattle.std.specs.Ordering.{is_lt}
use Rattle.std.proofs.lemmas.List.Sorted.{IsPartitionPoint-from_clause}
use Rattle.weak_pairs.specs.Ranks.{IsRank, list_cmp}
use Rattle.weak_pairs.proofs.Ranking.{parted, rank-below}
use Rattle.weak_pairs.proofs.ranks.bucket.Goals as goal

ranked : (c : goal.After-partition_point) → IsRank c.args.lists.now.form c.args.order.now c.args.at c.partition_point.result
ranked c =
    let lists = c.args.lists.now.form in
    let at = c.args.at in
    IsPartitionPoint-from_clause (λ i. is_lt (list_cmp lists i at)) c.args.order.now c.partition_point.result c.partition_point.ensures.partitioned (parted lists c.args.order.now c.requires.ordered at)
    (λ a r f k. search rules)

pub returns : goal.returns
returns c = λ have. (ranked c, rank-below c.args.lists.now.form c.args.order.now c.requires.ordered c.args.at c.partition_point.result c.requires.there (ranked c))
