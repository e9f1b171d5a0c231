use Rattle.list_search.proofs.Deciding.{in_range, once}
use Rattle.union_ask.proofs.Deciding.{decided-in}
use Rattle.union_ask.proofs.reason.decide_row.Goals as goal

pub solved_by_groups-requires-clause-range : goal.solved_by_groups-requires-clause-range
solved_by_groups-requires-clause-range c =
    let h = c.in_ok-formula.ensures.encoded in
    in_range c.args.parts.now.db.now h.tables h.lists c.in_ok-formula.formula h.encoded

pub solved_by_groups-requires-clause-once : goal.solved_by_groups-requires-clause-once
solved_by_groups-requires-clause-once c =
    let h = c.in_ok-formula.ensures.encoded in
    once c.args.parts.now.db.now h.tables h.lists c.in_ok-formula.formula h.encoded

pub returns-clause-decided : goal.returns-clause-decided
returns-clause-decided c =
    let parts = c.args.parts.now in
    decided-in parts.db.now parts.queries.now parts.database parts.parts.fits c.args.row.now c.in_ok-formula.formula c.in_ok-formula.ensures.encoded c.args.budget c.in_ok-decided.decided c.in_ok-decided.ensures.same c.in_ok-decided.ensures.outcome
