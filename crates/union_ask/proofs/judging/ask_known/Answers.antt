use Rattle.union_ask.proofs.Knowing.{known-in}
use Rattle.union_ask.proofs.judging.ask_known.Goals as goal

pub returns : goal.returns
returns c =
    let parts = c.args._parts.now in
    known-in parts.db.now parts.queries.now c.args.bounds.now c.in_ok-known_rows.field-0 c.requires.bounds c.in_ok-known_rows.ensures
