use Rattle.std.proofs.Common.{ℕ, ◌<◌, length, get_or, below_more, arith}
use Rattle.std.proofs.lemmas.List.Elements.{Contains-get_or}
use Rattle.key_closure.specs.Sets.{HasAtom}
use Rattle.plan_rows.specs.Grouping.{AreUnlinked}
use Rattle.plan_rows.proofs.Columns.{each-atom}
use Rattle.plan_rows.proofs.grouped.next_joined.Goals.{else-not-has-via-then-not-has+else-is_joined, else-not-has-via-else-not-has}
use Rattle.plan_rows.proofs.grouped.next_joined.Goals as goal

pub has-requires : goal.has-requires
has-requires c =
    let l = c.requires (get_or c.args.atoms.now c.loop-atom.atom-index 0) (Contains-get_or c.args.atoms.now c.loop-atom.atom-index 0 c.loop-atom-test.true) in
    let few = c.args.setting.now.bound.now.query.now.kept.size.1 in
    omega (arith, l, few)

pub returns-then-is_joined : goal.returns-then-is_joined
returns-then-is_joined c = c.requires (get_or c.args.atoms.now c.loop-atom.atom-index 0) (Contains-get_or c.args.atoms.now c.loop-atom.atom-index 0 c.loop-atom-test.true)

pub loop-atom-preserved : goal.loop-atom-preserved
loop-atom-preserved c =
    let q = c.args.setting.now.bound.now.query.now in
    let group = c.args.group.now in
    let atoms = c.args.atoms.now in
    below_more (λ k. (F : ℕ) → F < length q.atoms → HasAtom group F → (HasAtom group (get_or atoms k 0) → ⊥) → AreUnlinked q F (get_or atoms k 0)) c.loop-atom.atom-index c.loop-atom.invariant
    (λ F l h off. elim c.else-not-has.branch [
      | else-not-has-via-then-not-has+else-is_joined w ↦ w.is_joined.ensures w.if-is_joined.false F l h
      | else-not-has-via-else-not-has w ↦ absurd (off (c.has.ensures.0 w.if-not-has.false))
    ])

pub returns : goal.returns
returns c = λ F G l h m off.
    let q = c.args.setting.now.bound.now.query.now in
    let group = c.args.group.now in
    let atoms = c.args.atoms.now in
    each-atom (λ H. (F : ℕ) → F < length q.atoms → HasAtom group F → (HasAtom group H → ⊥) → AreUnlinked q F H) atoms c.loop-atom.atom-index (omega (arith, c.loop-atom-test.false, c.loop-atom.auto.atom-index-end)) c.loop-atom.invariant G m F l h off
