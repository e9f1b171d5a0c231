use Rattle.union_ask.proofs.Sets.{tables-none, tables-more, tables-all}
use Rattle.union_ask.proofs.frame.all_tables.Goals as goal

pub loop-query-init : goal.loop-query-init
loop-query-init c = tables-none c.args.parts.now c.new-tables.result.items c.new-tables.ensures.items

pub loop-query-preserved : goal.loop-query-preserved
loop-query-preserved c =
    tables-more c.args.parts.now c.loop-query.query-index c.query-item.result c.loop-query.tables.items c.add_tables.new.tables.items c.loop-query-test.true c.query-item.is c.loop-query.invariant c.in_ok-add_tables.ensures

pub returns : goal.returns
returns c = tables-all c.args.parts.now c.loop-query.query-index c.loop-query.tables.items c.loop-query-test.false c.loop-query.invariant
