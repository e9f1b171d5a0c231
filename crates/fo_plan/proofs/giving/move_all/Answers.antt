use Rattle.std.proofs.Common.{refl, Contains}
use Rattle.fo_plan.proofs.Gathered.{one-put, kept-on, kept-ends, adds-same}
use Rattle.fo_plan.proofs.giving.move_all.Goals as goal

pub loop-row-preserved : goal.loop-row-preserved
loop-row-preserved c =
    kept-on (λ r. Unit {0}) c.args.part.now c.loop-row.part c.pop.new.self c.args.found.now c.loop-row.found c.put.new.self c.in-Some.row c.loop-row.invariant c.in-Some.ensures.items
    (one-put (λ r. Unit {0}) c.loop-row.found c.put.new.self c.in-Some.row tt c.in_ok-put.ensures)

pub returns : goal.returns
returns c =
    adds-same (λ r. Contains c.args.part.now r × Unit {0}) (Contains c.args.part.now) (λ r. ((λ p. p.0), (λ m. (m, tt)))) c.args.found.now c.loop-row.found
    (kept-ends (λ r. Unit {0}) c.args.part.now c.loop-row.part c.args.found.now c.loop-row.found c.loop-row.invariant (c.in_default.ensures.none.0 refl))
