use Rattle.std.proofs.Common.{sym, subst}
use Rattle.table_blocks.specs.Tables.{AreStored}
use Rattle.reason_statements.specs.Against.{IsDecision}
use Rattle.reason_statements.proofs.against.against_of.Goals as goal

pub fewest_of-names-requires-clause-stored : goal.fewest_of-names-requires-clause-stored
fewest_of-names-requires-clause-stored c =
    let bound = c.args.bound.now in
    let decided = subst (IsDecision bound.db.now bound.query.now c.args.row.now) c.in-Some.is c.in_ok-rejecting.ensures.decided in
    subst (AreStored bound.db.now) (sym c.as_slice.ensures) decided.1
