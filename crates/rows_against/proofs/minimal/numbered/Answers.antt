use Rattle.std.proofs.Common.{arith}
use Rattle.std.proofs.lemmas.List.Elements.{Contains-get_or}
use Rattle.rows_against.proofs.minimal.numbered.Goals as goal

pub offset_bounds-names-number : goal.offset_bounds-names-number
offset_bounds-names-number c =
    let there = c.requires _ (Contains-get_or c.args.numbers.now c.loop-number.number-index 0 c.loop-number-test.true) in
    omega (arith, there)

pub bounds-names-number : goal.bounds-names-number
bounds-names-number c = c.requires _ (Contains-get_or c.args.numbers.now c.loop-number.number-index 0 c.loop-number-test.true)
