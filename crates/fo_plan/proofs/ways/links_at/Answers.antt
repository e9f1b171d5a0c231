use Rattle.std.proofs.Common.{sym, subst}
use Rattle.plan_rows.specs.Left.{AreQueryAtoms}
use Rattle.fo_plan.proofs.Chained.{telling-atoms}
use Rattle.fo_plan.proofs.ways.links_at.Goals as goal

pub add_links-requires-clause-atoms : goal.add_links-requires-clause-atoms
add_links-requires-clause-atoms c = subst (AreQueryAtoms c.args.setting.now.bound.now.query.now) (sym c.as_slice.ensures.value) (telling-atoms c.args.setting.now.bound.now.query.now c.args.order.now c.args.place c.in_ok-atoms.atoms.items c.requires.order c.in_ok-atoms.ensures)
