use Rattle.std.proofs.Common.{◌<◌, subst}
use Rattle.table_blocks.proofs.Binding.{in-range}
use Rattle.fo_plan.proofs.links.is_linked.Goals as goal

pub is_told-requires : goal.is_told-requires
is_told-requires c = in-range c.args.bound.now.query.now c.args.atom c.loop-col.col (subst (λ n. c.loop-col.col < n) c.width_of-col-end.ensures c.loop-col-test.true)
