use Rattle.pair_formula.proofs.reason.by_refutation.Goals as goal

pub returns-in-Ok-clause-told : goal.returns-in-Ok-clause-told
returns-in-Ok-clause-told c = (c.in-Ok.ensures.within, (c.in-Ok.field-0.formula.rows, c.in-Ok.ensures.refuted))
