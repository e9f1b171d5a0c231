use Rattle.std.proofs.Common.{arith}
use Rattle.plan_rows.proofs.wanted.place_from.Goals as goal

pub returns-then-at-places-clause-low : goal.returns-then-at-places-clause-low
returns-then-at-places-clause-low c = omega (arith, c.count_below-at.ensures.low c.if-at-places.true, c.requires.within, c.min.ensures)

pub returns-then-at-places-clause-none : goal.returns-then-at-places-clause-none
returns-then-at-places-clause-none c = λ i low less m.
    let high = (c.count_below-at.ensures.high i low m).1 in
    omega (arith, high, less, c.min.ensures)

pub returns-else-at-places-clause-none : goal.returns-else-at-places-clause-none
returns-else-at-places-clause-none c = λ i low less m.
    let there = (c.count_below-at.ensures.high i low m).0 in
    omega (arith, there, c.if-at-places.false)
