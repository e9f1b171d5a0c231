use Rattle.std.proofs.Common.{rules, refl, ap}
use mir.Val.{SFits}
use mir.Syntax.{w128}
use Rattle.std.proofs.lemmas.Int.{to_z-of_z}
use Rattle.aggregate_range.specs.declared.aggregate.End.TheVariants.{Number}
use Rattle.range_ask.proofs.Ended.{total-choice}
use Rattle.range_ask.proofs.choice.total_choice.Goals as goal

pub returns : goal.returns
returns c =
    let sides = c.in_ok-low.field-0 in
    let low : SFits w128 sides.low.total = search rules in
    let high : SFits w128 sides.high.total = search rules in
    let found = c.in_ok-low.ensures in
    total-choice c.args.db.now c.args.table c.args.tests.now found.0 found.1 c.args.goal.now c.requires.goal sides found.2 _ (ap Number (to_z-of_z w128 sides.low.total low)) refl (ap Number (to_z-of_z w128 sides.high.total high)) refl refl
