use Rattle.list_search.proofs.Deciding.{kept_is}
use Rattle.part_search.proofs.deciding.solved_by_groups.Goals as goal

pub returns-clause-outcome : goal.returns-clause-outcome
returns-clause-outcome c =
    kept_is c.args.formula.cnf c.args.budget c.solve-found.result c.with_outcome.result c.with_outcome.ensures.outcome c.solve-found.ensures.sat c.solve-found.ensures.unsat
    c.solve-found.ensures.unsat_ids c.solve-found.ensures.unsat_size c.solve-found.ensures.spent
