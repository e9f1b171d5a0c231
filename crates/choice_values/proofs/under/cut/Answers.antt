use Rattle.std.proofs.Common.{◌≡◌, ◌+◌, take, sym, ◌∙◌, ap, subst}
use Rattle.choice_values.specs.Under.{IsLeft}
use Rattle.choice_values.proofs.Cutting.{left-none, left-other, left-same, left-clash}
use Rattle.choice_values.proofs.under.cut.Goals.{then-name-block+in_ok-push, else-name-block+else-name-row}
use Rattle.choice_values.proofs.under.cut.Goals as goal

pub returns-then-name-row : goal.returns-then-name-row
returns-then-name-row c =
    left-clash c.args.block c.args.row c.args.names.now c.loop-name.left.items c.loop-name.name-index c.loop-name-test.true (record { block = 0; row = 0 }) c.loop-name.invariant c.if-name-block.false c.if-name-row.true

pub loop-name-preserved : goal.loop-name-preserved
loop-name-preserved c = elim c.if-name-block.branch [
  | then-name-block+in_ok-push w ↦ left-other c.args.block c.args.row c.args.names.now c.loop-name.left.items c.loop-name.name-index c.loop-name-test.true (record { block = 0; row = 0 }) c.loop-name.invariant c.if-name-block.left.items w.if-name-block.true
      (ap (λ v. v.items) w.left-is ∙ w.in_ok-push.ensures.items)
  | else-name-block+else-name-row w ↦ subst (λ v. IsLeft c.args.block c.args.row (take (c.loop-name.name-index + 1) c.args.names.now) v.items) (sym w.left-is)
      (left-same c.args.block c.args.row c.args.names.now c.loop-name.left.items c.loop-name.name-index c.loop-name-test.true (record { block = 0; row = 0 }) c.loop-name.invariant w.if-name-block.false w.if-name-row.false)
]
