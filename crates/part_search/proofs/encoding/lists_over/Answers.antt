use Rattle.join_access.specs.Listing.{names_of}
use Rattle.part_search.proofs.Framing.{lists-within, lists-stored}
use Rattle.part_search.proofs.encoding.lists_over.Goals as goal

pub new-requires-clause-within : goal.new-requires-clause-within
new-requires-clause-within c =
    let parts = c.args.parts.now in
    lists-within parts.db.now parts.queries.now c.args.frame.now.tables c.requires.frame c.args._row.now (names_of c.args.lists.now) c.requires.names

pub new-requires-clause-stored : goal.new-requires-clause-stored
new-requires-clause-stored c =
    let parts = c.args.parts.now in
    lists-stored parts.db.now parts.queries.now c.args.frame.now.tables c.requires.frame c.args._row.now (names_of c.args.lists.now) c.requires.names
