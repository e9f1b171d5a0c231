use Rattle.std.proofs.Common.{◌<◌, below_more, subst, arith}
use Rattle.plan_repair.specs.Apart.{BringsNone}
use Rattle.table_blocks.proofs.Binding.{in-range}
use Rattle.plan_repair.proofs.way.brings.Goals as goal

pub brings_column-requires : goal.brings_column-requires
brings_column-requires c = in-range c.args.bound.now.query.now c.args.atom c.loop-col.col (subst (λ n. c.loop-col.col < n) c.width_of-col-end.ensures c.loop-col-test.true)

pub loop-col-preserved : goal.loop-col-preserved
loop-col-preserved c =
    below_more (λ j. BringsNone c.args.bound.now.query.now c.args.before.now (record { atom = c.args.atom; col = j }) c.args.rest.now) c.loop-col.col c.loop-col.invariant (c.brings_column.ensures c.if-brings_column.false)

pub returns : goal.returns
returns c = λ f j l. c.loop-col.invariant j (omega (arith, c.loop-col-test.false, c.width_of-col-end.ensures, l))
