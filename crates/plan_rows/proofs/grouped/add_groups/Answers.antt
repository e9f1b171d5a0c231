use Rattle.std.proofs.Common.{get_or, ◌++◌, sym, subst, ap, ◌∙◌}
use Rattle.std.proofs.lemmas.List.Elements.{Contains-get_or}
use Rattle.plan_rows.specs.Left.{AreQueryAtoms}
use Rattle.plan_rows.specs.Grouping.{IsAtomSplit}
use Rattle.plan_rows.proofs.Grouping.{grouping-starts, grouping-on, grouping-left, grouping-ended, grouping-ends, empty-atoms, some-atoms}
use Rattle.plan_rows.proofs.grouped.add_groups.Goals as goal

pub loop-init : goal.loop-init
loop-init c = record {
  there = c.requires.first;
  grouping = grouping-starts c.args.setting.now.bound.now.query.now c.args.atoms.now c.args.order.now.items c.in_ok-left.left.items c.in_ok-left.ensures.items;
}

pub add_group-requires-clause-atoms : goal.add_group-requires-clause-atoms
add_group-requires-clause-atoms c =
    let q = c.args.setting.now.bound.now.query.now in
    subst (AreQueryAtoms q) (sym c.as_slice.ensures.value) (grouping-left q c.args.atoms.now c.args.order.now.items c.loop.order.items c.loop.left.items c.loop.invariant.grouping c.requires.atoms)

pub returns-then-is_empty : goal.returns-then-is_empty
returns-then-is_empty c =
    let q = c.args.setting.now.bound.now.query.now in
    let left = c.in_ok-left-2.left.items in
    let split = subst (λ p. IsAtomSplit q p c.loop.order.items c.add_group.new.order.items left) c.as_slice.ensures.value c.in_ok-left-2.ensures in
    grouping-ended q c.args.atoms.now c.args.order.now.items c.add_group.new.order.items left
    (grouping-on q c.args.atoms.now c.args.order.now.items c.loop.order.items c.loop.left.items c.add_group.new.order.items left c.loop.invariant.grouping split)
    (sym c.as_slice-rest.ensures.value ∙ empty-atoms c.as_slice-rest.result.now c.is_empty.result c.is_empty.ensures c.if-is_empty.true)

pub loop-preserved : goal.loop-preserved
loop-preserved c =
    let q = c.args.setting.now.bound.now.query.now in
    let left = c.in_ok-left-2.left.items in
    let split = subst (λ p. IsAtomSplit q p c.loop.order.items c.add_group.new.order.items left) c.as_slice.ensures.value c.in_ok-left-2.ensures in
    let on = grouping-on q c.args.atoms.now c.args.order.now.items c.loop.order.items c.loop.left.items c.add_group.new.order.items left c.loop.invariant.grouping split in
    record {
      there = subst (AreQueryAtoms q) (sym c.as_slice-rest.ensures.value) (grouping-left q c.args.atoms.now c.args.order.now.items c.add_group.new.order.items left on c.requires.atoms) (get_or c.as_slice-rest.result.now 0 0)
          (Contains-get_or c.as_slice-rest.result.now 0 0 (some-atoms c.as_slice-rest.result.now c.is_empty.result c.is_empty.ensures c.if-is_empty.false));
      grouping = on;
    }

pub returns : goal.returns
returns c =
    grouping-ends c.args.setting.now.bound.now.query.now c.args.atoms.now c.args.order.now.items c.loop.order.items c.loop.left.items c.extend_from_slice.new.self.items c.loop.invariant.grouping
    (c.in_ok-extend_from_slice.ensures.items ∙ ap (λ z. c.loop.order.items ++ z) c.as_slice-2.ensures.value)
