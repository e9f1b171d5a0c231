use Rattle.std.proofs.Common.{sym, subst}
use Rattle.row_pieces.specs.Marks.{PassesBelow, FailsAbove}
use Rattle.row_pieces.proofs.Marking.{least_passes, greatest_fails}
use Rattle.row_pieces.proofs.mark.marks_with.Goals as goal

pub returns-in-None-clause-least : goal.returns-in-None-clause-least
returns-in-None-clause-least c p follows then = subst (λ mark. PassesBelow mark p) (sym c.mark_of-least.ensures) (least_passes c.args.first.now p follows)

pub returns-in-None-clause-greatest : goal.returns-in-None-clause-greatest
returns-in-None-clause-greatest c p follows then = subst (λ mark. FailsAbove mark p) (sym c.mark_of-greatest.ensures) (greatest_fails c.args.first.now p follows)
