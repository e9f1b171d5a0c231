use Rattle.std.proofs.Common.{◌∙◌, ◌+◌, get_or, take, sym, subst, arith}
use Rattle.std.proofs.lemmas.Bool.{false≢true}
use Rattle.std.proofs.lemmas.List.Elements.{Contains-get_or}
use Rattle.plan_rows.specs.Grouping.{IsGroupParted}
use Rattle.plan_rows.proofs.Grouping.{parted-none, parted-left, parted-right, parted-all}
use Rattle.plan_rows.proofs.grouped.part.Goals.{then-has+in_ok-push, else-has+in_ok-push-2}
use Rattle.plan_rows.proofs.grouped.part.Goals as goal

pub loop-atom-init : goal.loop-atom-init
loop-atom-init c = parted-none c.args.group.now c.args.atoms.now c.args.order.now.items c.args.others.now.items c.requires.none

pub has-requires : goal.has-requires
has-requires c = c.requires.small (get_or c.args.atoms.now c.loop-atom.atom-index 0) (Contains-get_or c.args.atoms.now c.loop-atom.atom-index 0 c.loop-atom-test.true)

pub loop-atom-preserved : goal.loop-atom-preserved
loop-atom-preserved c =
    let group = c.args.group.now in
    let atoms = c.args.atoms.now in
    let old = c.args.order.now.items in
    let at = c.loop-atom.atom-index in
    let order = c.loop-atom.order.items in
    let others = c.loop-atom.others.items in
    elim c.if-has.branch [
      | then-has+in_ok-push w ↦
          subst (λ v. IsGroupParted group (take (at + 1) atoms) old v.items c.if-has.others.items) (sym w.order-is) (subst (λ v. IsGroupParted group (take (at + 1) atoms) old w.push.new.self.items v.items) (sym w.others-is)
          (parted-left group atoms old order others w.push.new.self.items at c.loop-atom-test.true c.loop-atom.invariant (c.has.ensures.0 w.if-has.true) w.in_ok-push.ensures.items))
      | else-has+in_ok-push-2 w ↦
          subst (λ v. IsGroupParted group (take (at + 1) atoms) old v.items c.if-has.others.items) (sym w.order-is) (subst (λ v. IsGroupParted group (take (at + 1) atoms) old order v.items) (sym w.others-is)
          (parted-right group atoms old order others w.push-else-has.new.self.items at c.loop-atom-test.true c.loop-atom.invariant (λ h. false≢true (sym w.if-has.false ∙ c.has.ensures.1 h)) w.in_ok-push-2.ensures.items))
    ]

pub returns : goal.returns
returns c = parted-all c.args.group.now c.args.atoms.now c.args.order.now.items c.loop-atom.order.items c.loop-atom.others.items c.loop-atom.atom-index (omega (arith, c.loop-atom-test.false, c.loop-atom.auto.atom-index-end)) c.loop-atom.invariant
