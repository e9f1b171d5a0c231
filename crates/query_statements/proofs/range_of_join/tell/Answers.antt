use Rattle.query_statements.proofs.Joining.{join-stored}
use Rattle.query_statements.proofs.range_of_join.tell.Goals as goal

pub chosen_ends-requires-clause-low : goal.chosen_ends-requires-clause-low
chosen_ends-requires-clause-low c =
    let bound = c.args.bound.now in
    join-stored bound.db.now bound.query.now c.args.lax c.args.sought.now _ _ bound.database bound.fits c.requires.lax c.in_ok-range.ensures.range.from

pub chosen_ends-requires-clause-high : goal.chosen_ends-requires-clause-high
chosen_ends-requires-clause-high c =
    let bound = c.args.bound.now in
    join-stored bound.db.now bound.query.now c.args.lax c.args.sought.now _ _ bound.database bound.fits c.requires.lax c.in_ok-range.ensures.range.to
