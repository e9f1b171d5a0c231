use Rattle.table_blocks.proofs.search.parted.Goals as goal

pub returns-in-None-clause-partitioned : goal.returns-in-None-clause-partitioned
returns-in-None-clause-partitioned g c p k follows s = c.partition_point.ensures.partitioned p k s
