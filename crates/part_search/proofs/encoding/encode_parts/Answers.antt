use Rattle.part_search.proofs.Parts.{not-over-lists}
use Rattle.part_search.proofs.encoding.encode_parts.Goals as goal

pub returns-clause-within : goal.returns-clause-within
returns-clause-within c =
    let parts = c.args.parts.now in
    not-over-lists parts.db.now c.args.row.now parts.queries.now c.in_ok-lists.lists.items c.in_ok-lists.ensures.names c.in_ok-lists.ensures.few
