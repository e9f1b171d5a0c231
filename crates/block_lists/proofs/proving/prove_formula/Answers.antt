use Rattle.std.proofs.lemmas.Result.{IfOk-weaker}
use Rattle.block_lists.proofs.Encoding.{formula_once, formula_range, outcome_is, proved_is}
use Rattle.block_lists.proofs.proving.prove_formula.Goals as goal

pub solve-requires-clause-range : goal.solve-requires-clause-range
solve-requires-clause-range c = formula_range c.args.sizes.now c.args.lists.now c.requires.there c.in_ok-cnf.cnf c.in_ok-cnf.ensures

pub solve-requires-clause-once : goal.solve-requires-clause-once
solve-requires-clause-once c = formula_once c.args.sizes.now c.args.lists.now c.requires.there c.in_ok-cnf.cnf c.in_ok-cnf.ensures

pub returns-in-Ok : goal.returns-in-Ok
returns-in-Ok c =
    let sizes = c.args.sizes.now in
    let lists = c.args.lists.now in
    let cnf = c.in_ok-cnf.cnf in
    let says = c.solve.ensures in
    let outcome = outcome_is sizes lists c.requires cnf c.in_ok-cnf.ensures c.args.budget c.solve.result c.in-Ok.outcome c.in-Ok.is says.sat says.unsat says.unsat_ids says.unsat_size says.spent in
    IfOk-weaker c.shown_by.result _ _ (λ proved shows. proved_is sizes lists c.requires cnf c.in_ok-cnf.ensures c.args.budget c.in-Ok.outcome c.shown_by.new.choice.items proved outcome shows) c.shown_by.ensures
