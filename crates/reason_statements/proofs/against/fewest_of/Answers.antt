use Rattle.std.proofs.Common.{sym, subst}
use Rattle.table_blocks.specs.declared.bound.Bound.{Bound}
use Rattle.table_blocks.specs.Tables.{AreStored}
use Rattle.reason_statements.proofs.against.fewest_of.Goals as goal

pub minimal_rows-names-requires-clause-stored : goal.minimal_rows-names-requires-clause-stored
minimal_rows-names-requires-clause-stored c = subst (λ (b : Bound). AreStored b.db.now c.args.rejecting.now) (sym c.in_ok-found.ensures.found.0) c.requires.stored
