use Rattle.std.proofs.Common.{sym, subst}
use Rattle.table_blocks.specs.Tables.{AreStored}
use Rattle.reason_statements.proofs.against.kept_against.Goals as goal

pub kept_rows-lines-requires : goal.kept_rows-lines-requires
kept_rows-lines-requires c = subst (AreStored c.args.db.now) (sym c.as_slice.ensures) c.requires
