use Rattle.union_ask.proofs.Searching.{possible-of}
use Rattle.union_ask.proofs.candidates.union_candidates.Goals as goal

pub returns-clause-possible : goal.returns-clause-possible
returns-clause-possible c =
    let parts = c.args.parts.now in
    possible-of parts.db.now parts.queries.now parts.parts.fits c.in_ok-list.list c.in_ok-list.ensures
