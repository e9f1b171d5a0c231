use Rattle.pair_formula.proofs.certain.by_formula.Goals as goal

pub returns : goal.returns
returns c =
    let f = c.in_ok-cnf.ensures.certain in
    (λ t. f.0 (c.in_ok-certain.ensures.0 t), λ k. c.in_ok-certain.ensures.1 (f.1 k))
