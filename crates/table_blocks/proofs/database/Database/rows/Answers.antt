use Rattle.std.proofs.Common.{◌≤◌, length, subst, sym}
use Rattle.table_blocks.proofs.Naming.{found_few}
use Rattle.table_blocks.proofs.database.Database.rows.Goals as goal

pub returns-clause-few : goal.returns-clause-few
returns-clause-few c = subst (λ rows. length rows ≤ 1_000_000) (sym c.rows.ensures.is) (found_few c.args.self.now c.args.table c.table.result.now c.table.ensures.found c.table.ensures.database.few_rows)
