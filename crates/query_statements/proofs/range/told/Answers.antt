use Rattle.std.proofs.Common.{sym, subst}
use Rattle.table_blocks.specs.Tables.{AreStored}
use Rattle.query_statements.proofs.range.told.Goals as goal

pub kept_rows-requires : goal.kept_rows-requires
kept_rows-requires c = subst (AreStored c.args.db.now) (sym c.as_slice.ensures) c.requires.low

pub kept_rows-requires-2 : goal.kept_rows-requires-2
kept_rows-requires-2 c = subst (AreStored c.args.db.now) (sym c.as_slice-2.ensures) c.requires.high
