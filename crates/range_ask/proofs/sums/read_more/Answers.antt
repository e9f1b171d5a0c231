use Rattle.std.proofs.Common.{rules, refl, ◌∙◌}
use mir.Val.{SFits}
use mir.Syntax.{w64}
use Rattle.std.proofs.lemmas.Int.{to_z-of_z}
use Rattle.range_ask.proofs.sums.read_more.Goals as goal

pub returns-clause-bests : goal.returns-clause-bests
returns-clause-bests c =
    let fits : SFits w64 c.args.worth = search rules in
    let same = to_z-of_z w64 c.args.worth fits in
    λ f block h e. (c.lower_of.ensures f block h.0 (same ∙ e), c.higher_of.ensures f block h.1 (same ∙ e), refl)
