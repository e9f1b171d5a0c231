use Rattle.std.proofs.Common.{sym, ◌∙◌, ap, subst}
use Rattle.std.specs.Ordering.{is_lt, is_gt}
use Rattle.range_ask.specs.Ranges.{cell}
use Rattle.range_ask.specs.Picks.{Before}
use Rattle.range_ask.proofs.Ordered.{lt-before, lt-behind, gt-before, gt-behind}
use Rattle.range_ask.proofs.way.is_further.Goals as goal

pub returns-in-Up-clause-further : goal.returns-in-Up-clause-further
returns-in-Up-clause-further c =
    let x = cell c.args.row.now c.args.col in
    let y = cell c.args.other.now c.args.col in
    λ t. subst (λ w. Before w y x) (sym c.in-Up.is) (gt-before x y (sym (c.is_gt.ensures ∙ ap is_gt c.compared-order.ensures) ∙ t))

pub returns-in-Up-clause-behind : goal.returns-in-Up-clause-behind
returns-in-Up-clause-behind c =
    let x = cell c.args.row.now c.args.col in
    let y = cell c.args.other.now c.args.col in
    λ t. subst (λ w. Before w x y) (sym c.in-Up.is) (gt-behind x y (sym (c.is_gt.ensures ∙ ap is_gt c.compared-order.ensures) ∙ t))

pub returns-in-Down-clause-further : goal.returns-in-Down-clause-further
returns-in-Down-clause-further c =
    let x = cell c.args.row.now c.args.col in
    let y = cell c.args.other.now c.args.col in
    λ t. subst (λ w. Before w y x) (sym c.in-Down.is) (lt-before x y (sym (c.is_lt.ensures ∙ ap is_lt c.compared-order.ensures) ∙ t))

pub returns-in-Down-clause-behind : goal.returns-in-Down-clause-behind
returns-in-Down-clause-behind c =
    let x = cell c.args.row.now c.args.col in
    let y = cell c.args.other.now c.args.col in
    λ t. subst (λ w. Before w x y) (sym c.in-Down.is) (lt-behind x y (sym (c.is_lt.ensures ∙ ap is_lt c.compared-order.ensures) ∙ t))
