use Rattle.std.proofs.Common.{◌∙◌, sym, arith}
use Rattle.query_resolve.specs.Names.{atom_scope}
use Rattle.query_resolve.proofs.Lookups.{column_inside}
use Rattle.query_resolve.proofs.Scopes.{having_none, table_read}
use Rattle.query_resolve.proofs.column.owner_from.Goals as goal

pub overflow_cast-result-in-Some : goal.overflow_cast-result-in-Some
overflow_cast-result-in-Some c =
    let inside = column_inside c.table_columns.result.now c.args.name.now c.in-Some.col (sym c.in-Some.ensures) in
    let few = c.table_columns.ensures.few in
    omega (arith, inside, few)

pub loop-at-preserved : goal.loop-at-preserved
loop-at-preserved c =
    c.loop-at.invariant
    ∙ having_none c.args.name.now (atom_scope c.args.db.now c.args.atoms.now) c.loop-at.at c.table_columns.result.now
    (table_read c.args.db.now c.args.atoms.now c.loop-at.at c.index-atoms-at.result c.table_columns.result.now c.loop-at-test.true c.table_columns.ensures.is)
    (sym c.in_default.ensures)
