use Rattle.std.proofs.Common.{arith}
use Rattle.lrat_check.proofs.MarkLemmas.{pop_valid, pop_room}
use Rattle.lrat_check.proofs.marks.Marks.clear.Goals as goal

pub index_mut-requires : goal.index_mut-requires
index_mut-requires c = let r = pop_room _ _ _ _ c.loop-var.invariant c.in-Some.ensures.items in omega (arith, r)

pub loop-var-preserved : goal.loop-var-preserved
loop-var-preserved c = pop_valid _ _ _ _ c.loop-var.invariant c.in-Some.ensures.items
