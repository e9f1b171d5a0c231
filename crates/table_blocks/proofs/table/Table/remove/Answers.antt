use Rattle.std.proofs.Common.{subst}
use Rattle.std.specs.List.Sorted.{IsStrictlySortedBy}
use Rattle.cqa_model.specs.Database.{block_cmp, IsTable}
use Rattle.table_blocks.specs.Tables.{AreValidRows, IsSpared}
use Rattle.table_blocks.proofs.Sharing.{consistent_within}
use Rattle.table_blocks.proofs.table.Table.remove.Goals as goal
use Rattle.table_blocks.proofs.table.Table.remove.Goals.{After-remove}

in_block_order : (c : After-remove) → IsTable (record { schema = c.self.inside.schema; rows = c.remove.new.rows }) × AreValidRows c.remove.new.rows
in_block_order c = (
  record {
    in_order = subst (λ key. IsStrictlySortedBy (block_cmp key) c.remove.new.rows) c.key_places.ensures c.remove.ensures.spared.in_order;
    of_schema = λ row h. c.self.invariant.0.of_schema row ((c.remove.ensures.spared.members row).0 h).0;
    strict = λ t. consistent_within c.self.inside.schema.key c.self.inside.rows c.remove.new.rows (c.self.invariant.0.strict t) (λ row h. ((c.remove.ensures.spared.members row).0 h).0);
  },
  λ row h. c.self.invariant.1 row ((c.remove.ensures.spared.members row).0 h).0,
)

pub invariant_of-self : goal.invariant_of-self
invariant_of-self c = in_block_order c

pub returns-clause-table : goal.returns-clause-table
returns-clause-table c = (in_block_order c).0

pub returns-clause-valid : goal.returns-clause-valid
returns-clause-valid c = (in_block_order c).1

pub returns-clause-spared : goal.returns-clause-spared
returns-clause-spared c = subst (λ t. IsSpared t.schema.key t.rows c.args.tests.now c.remove.new.rows) c.self.view_is (subst (λ key. IsSpared key c.self.inside.rows c.args.tests.now c.remove.new.rows) c.key_places.ensures c.remove.ensures.spared)
