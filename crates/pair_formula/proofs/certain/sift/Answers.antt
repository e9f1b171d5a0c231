use Rattle.pair_formula.proofs.certain.sift.Goals as goal

pub returns-in-Ok-clause-sifted : goal.returns-in-Ok-clause-sifted
returns-in-Ok-clause-sifted c =
    let b = c.args.lookup.now.bound.now in
    c.sift.ensures b.db.now b.query.now c.in-Ok.ensures.certain
