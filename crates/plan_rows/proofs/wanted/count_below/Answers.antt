use Rattle.std.proofs.Common.{rules}
use Rattle.std.proofs.Math.Dec.{ltb}
use Rattle.std.proofs.lemmas.List.Sorted.{IsPartitionPoint-from_clause, IsPartitionedBy-ltb}
use Rattle.std.proofs.lemmas.Map.Keys.{non_decreasing_from_sorted}
use Rattle.plan_rows.proofs.Wanting.{from-low, listed-high}
use Rattle.plan_rows.proofs.wanted.count_below.Goals as goal

pub returns : goal.returns
returns c =
    let places = c.args.places.now in
    let at = c.partition_point.result in
    let point = IsPartitionPoint-from_clause (λ p. ltb p c.args.from) places at c.partition_point.ensures.partitioned
    (IsPartitionedBy-ltb (λ p. p) places c.args.from (non_decreasing_from_sorted places c.requires)) (λ a r q k. search rules) in
    record {
      low = from-low places c.args.from at c.requires point;
      high = listed-high places c.args.from at c.requires point;
    }
