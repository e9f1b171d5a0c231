use Rattle.std.proofs.Common.{arith}
use Rattle.plan_rows.proofs.Grouping.{split-of}
use Rattle.plan_rows.proofs.grouped.add_group.Goals as goal

pub part-requires-clause-small : goal.part-requires-clause-small
part-requires-clause-small c = λ F m.
    let l = c.requires.atoms F m in
    let few = c.args.setting.now.bound.now.query.now.kept.size.1 in
    omega (arith, l, few)

pub returns : goal.returns
returns c = split-of c.args.setting.now.bound.now.query.now c.group_of-group.result c.args.atoms.now c.args.order.now.items c.part.new.order.items c.part.new.others.items c.group_of-group.ensures c.requires.atoms c.in_ok-part.ensures
