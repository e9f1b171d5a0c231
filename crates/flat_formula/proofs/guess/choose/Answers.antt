use Rattle.std.proofs.Common.{◌∙◌, length, ap}
use Rattle.flat_formula.proofs.Turning.{are_below}
use Rattle.flat_formula.proofs.guess.choose.Goals as goal

pub open_lit-requires : goal.open_lit-requires
open_lit-requires c =
    are_below (length c.args.values.now.items) (length c.as_slice.result.now) c.args.formula.now c.loop-at.at c.clause.result.now c.requires c.clause.ensures
    (ap length (c.as_slice.ensures.value ∙ c.loop-at.invariant))
