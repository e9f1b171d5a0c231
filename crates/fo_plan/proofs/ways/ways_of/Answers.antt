use Rattle.std.proofs.Common.{sym, subst}
use Rattle.plan_rows.specs.Left.{AreQueryAtoms}
use Rattle.fo_plan.proofs.ways.ways_of.Goals as goal

pub add_ways-requires-clause-order : goal.add_ways-requires-clause-order
add_ways-requires-clause-order c = subst (AreQueryAtoms c.args.bound.now.query.now) (sym c.as_slice.ensures) c.requires
