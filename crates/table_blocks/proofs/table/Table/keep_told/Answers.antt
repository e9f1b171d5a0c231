use Rattle.std.proofs.Common.{◌≡◌, length, map, take, drop, sym, subst}
use Rattle.cqa_model.specs.Database.{IsTable}
use Rattle.cqa_model.specs.Repairs.{IsSublist}
use Rattle.cqa_model.proofs.Repairs.{sublist-stored}
use Rattle.table_blocks.specs.Tables.{AreValidRows}
use Rattle.table_blocks.proofs.Keeping.{kept-sublist, sublist-sorted}
use Rattle.table_blocks.proofs.Sharing.{consistent_within}
use Rattle.table_blocks.proofs.table.Table.keep_told.Goals as goal
use Rattle.table_blocks.proofs.table.Table.keep_told.Goals.{After-retain_told}

kept : (c : After-retain_told) → IsSublist c.retain_told.new.self c.self.inside.rows
kept c =
    let p = c.requires.told.0 in
    subst (λ rows. IsSublist rows c.self.inside.rows) (sym (c.retain_told.ensures.retained p (subst (λ t. c.args.stays.now ≡ map p (take (length c.args.stays.now) (drop c.args.from t.rows))) (sym c.self.view_is) c.requires.told.1))) (kept-sublist p c.args.from (length c.args.stays.now) c.self.inside.rows)

in_block_order : (c : After-retain_told) → IsTable (record { schema = c.self.inside.schema; rows = c.retain_told.new.self }) × AreValidRows c.retain_told.new.self
in_block_order c =
    let stored = sublist-stored c.retain_told.new.self c.self.inside.rows (kept c) in (
      record {
        in_order = sublist-sorted c.self.inside.schema.key c.retain_told.new.self c.self.inside.rows (kept c) c.self.invariant.0.in_order;
        of_schema = λ row h. c.self.invariant.0.of_schema row (stored row h);
        strict = λ t. consistent_within c.self.inside.schema.key c.self.inside.rows c.retain_told.new.self (c.self.invariant.0.strict t) stored;
      },
      λ row h. c.self.invariant.1 row (stored row h),
    )

pub invariant_of-self : goal.invariant_of-self
invariant_of-self c = in_block_order c

pub returns-clause-table : goal.returns-clause-table
returns-clause-table c = (in_block_order c).0

pub returns-clause-valid : goal.returns-clause-valid
returns-clause-valid c = (in_block_order c).1
