use Rattle.formula_tests.proofs.formulas.answer.Goals as goal

pub solve-requires-clause-range : goal.solve-requires-clause-range
solve-requires-clause-range c = c.is_accepted.ensures.range c.if-not-is_accepted.false
