use Rattle.std.proofs.Common.{refl}
use Rattle.fo_plan.specs.Holding.{AllHoldWith}
use Rattle.fo_plan.proofs.Gathered.{kept-on, kept-ends}
use Rattle.fo_plan.proofs.giving.keep_all.Goals as goal

pub loop-row-preserved : goal.loop-row-preserved
loop-row-preserved c = record {
  kept = kept-on (λ r. AllHoldWith c.args.step.now r c.args.block.now)
      c.args.part.now c.loop-row.part c.pop.new.self c.args.found.now c.loop-row.found c.keep_one.new.found c.in-Some.row c.loop-row.invariant.kept c.in-Some.ensures.items c.in_ok-keep_one.ensures.added;
  right = c.keep_one.ensures.memo;
}

pub returns-clause-added : goal.returns-clause-added
returns-clause-added c =
    kept-ends (λ r. AllHoldWith c.args.step.now r c.args.block.now)
    c.args.part.now c.loop-row.part c.args.found.now c.loop-row.found c.loop-row.invariant.kept (c.in_default.ensures.none.0 refl)
