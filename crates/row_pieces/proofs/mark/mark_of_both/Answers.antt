use Rattle.std.proofs.Common.{◌∙◌, sym, subst, ap}
use Rattle.row_pieces.specs.Marks.{value_mark, PassesBelow, FailsAbove}
use Rattle.row_pieces.proofs.Marking.{lower_passes, higher_fails}
use Rattle.row_pieces.proofs.mark.mark_of_both.Goals as goal

pub returns-clause-least : goal.returns-clause-least
returns-clause-least c p follows then =
    let first = c.args.first.now in
    let is = c.mark_of.ensures ∙ ap (value_mark first) c.part_of-part.ensures.is in
    subst (λ mark. PassesBelow mark p) (sym is) (lower_passes first c.args.second.now p follows then)

pub returns-clause-greatest : goal.returns-clause-greatest
returns-clause-greatest c p follows then =
    let first = c.args.first.now in
    let is = c.mark_of.ensures ∙ ap (value_mark first) c.part_of-part.ensures.is in
    subst (λ mark. FailsAbove mark p) (sym is) (higher_fails first c.args.second.now p follows then)
