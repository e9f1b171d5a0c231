use Rattle.std.proofs.Common.{◌<◌, Contains, below_more, subst, arith}
use Rattle.plan_rows.specs.Left.{IsTold}
use Rattle.table_blocks.proofs.Binding.{in-range}
use Rattle.plan_rows.proofs.shared.add_shared.Goals as goal

pub add_column-requires : goal.add_column-requires
add_column-requires c = in-range c.args.bound.now.query.now c.args.atom c.loop-col.col (subst (λ n. c.loop-col.col < n) c.width_of-col-end.ensures c.loop-col-test.true)

pub loop-col-preserved : goal.loop-col-preserved
loop-col-preserved c = record {
  kept = λ x m. c.in_ok-add_column.ensures.kept x (c.loop-col.invariant.kept x m);
  added = below_more (λ j. IsTold c.args.bound.now.query.now c.args.others.now (record { atom = c.args.atom; col = j }) → Contains c.add_column.new.columns.items (record { atom = c.args.atom; col = j }))
      c.loop-col.col (λ j l h. c.in_ok-add_column.ensures.kept (record { atom = c.args.atom; col = j }) (c.loop-col.invariant.added j l h)) c.in_ok-add_column.ensures.added;
}

pub returns-clause-added : goal.returns-clause-added
returns-clause-added c = λ j l h. c.loop-col.invariant.added j (omega (arith, c.loop-col-test.false, c.width_of-col-end.ensures, l)) h
