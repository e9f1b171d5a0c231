use Rattle.std.proofs.Common.{◌+◌, take, sym, subst}
use Rattle.std.specs.List.{AllZip}
use Rattle.part_search.specs.Spoken.{AreSpokenIn}
use Rattle.part_search.proofs.Taking.{zip-more, zip-all}
use Rattle.part_search.proofs.scope.columns_of_tables.Goals as goal

pub loop-table-preserved : goal.loop-table-preserved
loop-table-preserved c =
    subst (AllZip (AreSpokenIn c.args.parts.now) (take (c.loop-table.table-index + 1) c.args.tables.now)) (sym c.in_ok-push.ensures.items)
    (zip-more (AreSpokenIn c.args.parts.now) c.args.tables.now c.loop-table.columns.items c.loop-table.table-index 0 c.in_ok-columns_of_table.field-0 c.loop-table-test.true c.loop-table.invariant c.in_ok-columns_of_table.ensures)

pub returns : goal.returns
returns c =
    subst (AllZip (AreSpokenIn c.args.parts.now) c.args.tables.now) (sym c.from_vec.ensures)
    (zip-all (AreSpokenIn c.args.parts.now) c.args.tables.now c.loop-table.columns.items c.loop-table.table-index c.loop-table-test.false c.loop-table.invariant)
