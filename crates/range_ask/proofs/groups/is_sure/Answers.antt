use Rattle.std.proofs.Common.{◌≡◌, true, subst, arith}
use Rattle.range_ask.specs.Ranges.{cell, meets}
use Rattle.range_ask.proofs.Chosen.{place}
use Rattle.range_ask.proofs.groups.is_sure.Goals as goal

pub returns-clause-yes : goal.returns-clause-yes
returns-clause-yes c = λ t y m.
    let i = place c.args.block.now y m in
    let l = i.1 in
    subst (λ z. (meets c.args.ask.now.tests.now z ≡ true) × (cell z c.args.ask.now.col ≡ cell c.args.first.now c.args.ask.now.col)) i.2 (c.loop-at.invariant i.0 (omega (arith, l)))
