use Rattle.std.proofs.Common.{arith}
use Rattle.std.proofs.lemmas.List.Elements.{Contains-get_or}
use Rattle.range_ask.proofs.ends.picked.Goals as goal

pub bounds-places-number : goal.bounds-places-number
bounds-places-number c =
    let in_range = c.requires _ (Contains-get_or c.args.numbers.now c.loop-number.number-index 0 (omega arith)) in
    omega (arith, in_range)

pub offset_bounds-places-number : goal.offset_bounds-places-number
offset_bounds-places-number c =
    let in_range = c.requires _ (Contains-get_or c.args.numbers.now c.loop-number.number-index 0 (omega arith)) in
    omega (arith, in_range)
