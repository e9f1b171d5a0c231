use Rattle.std.proofs.Common.{sym, subst}
use Rattle.cqa_value.proofs.Words.{mem-nil}
use Rattle.cqa_model.specs.Database.{IsTable}
use Rattle.table_blocks.specs.Tables.{AreValidRows}
use Rattle.table_blocks.proofs.Changing.{without_rows}
use Rattle.table_blocks.proofs.table.Table.new.Goals as goal

pub invariant_of-result : goal.invariant_of-result
invariant_of-result c = (
  subst (λ rows. IsTable (record { schema = c.args.schema; rows = rows })) (sym c.new.ensures) (without_rows c.args.schema),
  subst AreValidRows (sym c.new.ensures) (λ row h. absurd (mem-nil row h)),
)
